-- What a recorded call makes of an owner's request, and what an expire takes.
use Rattle.std.proofs.Common.{◌≡◌, ◌≢◌, ℕ, zero, suc, ◌+◌, ◌<◌, ◌≤◌, List, [], ◌∷◌, ◌++◌, length, get_or, take, refl, sym, ap, subst, ◌∙◌, arith, Option, Some, None, Bool, true, false, cond, inl, inr}
use Rattle.std.specs.Prelude.{◌⊎◌, fold}
use Rattle.std.proofs.lemmas.Bool.{both_ways}
use Rattle.std.proofs.lemmas.Bool.Decides.{nat_tests}
use Rattle.std.proofs.lemmas.List.{take-append-le, length-append}
use Rattle.std.proofs.lemmas.List.Sums.{fold-append}
use Rattle.std.proofs.Math.Seq.{take-append_seam, take-append-add}
use Rattle.tmmbr_tuple.specs.declared.tuple.Tuple.{Tuple}
use Rattle.tmmbr_tuple.specs.Tuple.{word_of}
use Rattle.desk.specs.declared.call.Call.{Call}
use Rattle.desk.specs.declared.call.Call.TheVariants.{Stay, Time}
use Rattle.desk.specs.declared.call.Answer.{Answer}
use Rattle.desk.specs.declared.call.Entry.{Entry}
use Rattle.desk.specs.declared.presence.Asked.{Asked}
use Rattle.desk.specs.declared.base.Base.{Base}
use Rattle.desk.specs.Answer.{IsAnswerTo, IsAnswerOr}
use Rattle.desk.specs.Call.{HasStay, moment_after, is_done}
use Rattle.desk.specs.Presence.{unless_old, is_old, refusal_of}
use Rattle.desk.specs.Trace.{empty_base, base_with, base_after}
use Rattle.desk.specs.Places.{HasEntryAt, WasDone, IsArriveOf, IsRequestOf, IsDepartOf, IsExpire, greatest_until}
use Rattle.desk.specs.State.{DeskState, HoldsLegalDesk, Records, now_of}
use Rattle.desk.proofs.PlaceLemmas.{not_in_nil, at_head, head_is, at_tail, from_tail, within}
use Rattle.desk.proofs.SinceLemmas.{Known, known_in, asked_as, Was, Step, arrives, asks, departs, expires, rests, step_at}
use Rattle.desk.proofs.TraceLemmas.{done_accepted, refusal-not_done, base_after-append, base_after-push}
use Rattle.core_steps.specs.Quiet.{ExpireTook}
use Rattle.core_steps.specs.Traces.{IsRequestIn}

-- ---- a call after others

last_of : (ys zs xs : List Entry) (e : Entry) → xs ++ e ∷ [] ≡ ys ++ zs → 1 ≤ length zs
    → (m : List Entry) × (zs ≡ m ++ e ∷ []) × (xs ≡ ys ++ m)
last_of [] zs xs e same some = (xs, sym same, refl)
last_of (y ∷ ys) zs [] e same some =
    let sizes : length (e ∷ []) ≡ length (y ∷ (ys ++ zs)) = ap (λ (l : List Entry). length l) same in
    absurd (omega (arith, sizes, some, length-append ys zs))
last_of (y ∷ ys) zs (x ∷ xs) e same some =
    let rest = last_of ys zs xs e (ap (λ (l : List Entry). tail_of l) same) some in
    let first : x ≡ y = ap (λ (l : List Entry). get_or l 0 x) same in
    (rest.0, rest.1, ap (λ (l : List Entry). x ∷ l) rest.2 ∙ ap (λ (z : Entry). z ∷ (ys ++ rest.0)) first)
  where
    tail_of : List Entry → List Entry
    tail_of [] = []
    tail_of (z ∷ zs) = zs

abbrev pub entry_of : Call → Answer → Entry
entry_of call answer = record { call = call; answer = answer }

module _ (d new : DeskState) (call : Call) (number : ℕ) (answer : Answer) (records : Records d call number answer new) where
  abbrev its : Entry
  its = entry_of call answer

  -- what all calls come to is what they came to, and this one
  pub now_with : now_of new ≡ base_with d.request_ms (now_of d) (entry_of call answer)
  now_with =
      ap (λ (ms : ℕ). base_after ms new.base new.history) records.request_ms
      ∙ (ap (λ (b : Base). base_after d.request_ms b new.history) records.stands.stands
      ∙ (sym (base_after-append d.request_ms d.base records.stands.folded new.history)
      ∙ (ap (λ (es : List Entry). base_after d.request_ms d.base es) (sym records.stands.in_turn)
      ∙ base_after-push d.request_ms d.base d.history its)))

  listed : 1 ≤ length new.history
  listed =
      let size : length (d.history ++ its ∷ []) ≡ length d.history + 1 = length-append d.history (its ∷ []) in
      omega (arith, records.stands.listed, size)

  abbrev earlier : (m : List Entry) × (new.history ≡ m ++ its ∷ []) × (d.history ≡ records.stands.folded ++ m)
  earlier = last_of records.stands.folded new.history d.history its records.stands.in_turn listed

  came : (m : List Entry) → d.history ≡ records.stands.folded ++ m → base_after new.request_ms new.base m ≡ now_of d
  came m same =
      ap (λ (ms : ℕ). base_after ms new.base m) records.request_ms
      ∙ (ap (λ (b : Base). base_after d.request_ms b m) records.stands.stands
      ∙ (sym (base_after-append d.request_ms d.base records.stands.folded m)
      ∙ ap (λ (es : List Entry). base_after d.request_ms d.base es) (sym same)))

  -- its answer is the one that is owed
  pub answered : HoldsLegalDesk new → IsAnswerTo d.gap d.request_ms (now_of d) call answer
  answered legal = step earlier.0 earlier.1 earlier.2
    where
      step : (m : List Entry) → new.history ≡ m ++ its ∷ [] → d.history ≡ records.stands.folded ++ m
          → IsAnswerTo d.gap d.request_ms (now_of d) call answer
      step m is same =
          let size : length (m ++ its ∷ []) ≡ length m + 1 = length-append m (its ∷ []) in
          let sizes : length new.history ≡ length (m ++ its ∷ []) = ap (λ (l : List Entry). length l) is in
          let here = legal.legal (length m) its (omega (arith, size, sizes)) in
          let at : get_or new.history (length m) its ≡ its = ap (λ (l : List Entry). get_or l (length m) its) is ∙ last_read m its in
          let first : take (length m) new.history ≡ m = ap (λ (l : List Entry). take (length m) l) is ∙ take-append_seam m (its ∷ []) in
          let base : base_after new.request_ms new.base (take (length m) new.history) ≡ now_of d
          = ap (λ (l : List Entry). base_after new.request_ms new.base l) first ∙ came m same in
          moved new.gap d.gap new.request_ms d.request_ms (base_after new.request_ms new.base (take (length m) new.history)) (now_of d)
          (get_or new.history (length m) its) its records.gap records.request_ms base at here
        where
          last_read : (xs : List Entry) (e : Entry) → get_or (xs ++ e ∷ []) (length xs) e ≡ e
          last_read [] e = refl
          last_read (x ∷ xs) e = last_read xs e

          moved : (gap gap' ms ms' : ℕ) (b b' : Base) (e e' : Entry) → gap ≡ gap' → ms ≡ ms' → b ≡ b' → e ≡ e'
              → IsAnswerTo gap ms b e.call e.answer → IsAnswerTo gap' ms' b' e'.call e'.answer
          moved gap gap' ms ms' b b' e e' p q r s h =
              subst (λ x. IsAnswerTo gap' ms' b' x.call x.answer) s
              (subst (λ x. IsAnswerTo gap' ms' x e.call e.answer) r
              (subst (λ x. IsAnswerTo gap' x b e.call e.answer) q (subst (λ x. IsAnswerTo x ms b e.call e.answer) p h)))

  pub has_stay : HoldsLegalDesk new → HasStay call
  has_stay legal = step earlier.0 earlier.1
    where
      step : (m : List Entry) → new.history ≡ m ++ its ∷ [] → HasStay call
      step m is =
          let size : length (m ++ its ∷ []) ≡ length m + 1 = length-append m (its ∷ []) in
          let sizes : length new.history ≡ length (m ++ its ∷ []) = ap (λ (l : List Entry). length l) is in
          let here : HasStay (get_or new.history (length m) its).call = legal.stays (length m) its (omega (arith, size, sizes)) in
          subst (λ (x : Entry). HasStay x.call) (ap (λ (l : List Entry). get_or l (length m) its) is ∙ last_read m its) here
        where
          last_read : (xs : List Entry) (e : Entry) → get_or (xs ++ e ∷ []) (length xs) e ≡ e
          last_read [] e = refl
          last_read (x ∷ xs) e = last_read xs e

  -- what it makes of an owner
  pub owner_step : HoldsLegalDesk new → (owner : ℕ)
      → Step d.request_ms (moment_after (now_of d).greatest call) owner (known_in (now_of d).present.items owner)
      (known_in (now_of new).present.items owner) (is_done answer) call
  owner_step legal owner =
      subst (λ (b : Base). Step d.request_ms (moment_after (now_of d).greatest call) owner (known_in (now_of d).present.items owner)
      (known_in b.present.items owner) (is_done answer) call) (sym now_with)
      (step_at d.request_ms owner (now_of d) its (done_accepted d.gap d.request_ms (now_of d) call answer (answered legal)))

  pub done_where : HoldsLegalDesk new → refusal_of (now_of d).present.items call ≡ None → is_done answer ≡ true
  done_where legal none = step (refusal_of (now_of d).present.items call) none (answered legal)
    where
      step : (o : Option Answer) → o ≡ None → IsAnswerOr d.gap d.request_ms (now_of d) call o answer → is_done answer ≡ true
      step None e h = ap is_done h.is
      step (Some r) e h = absurd (cc)

  pub refused_where : HoldsLegalDesk new → (r : Answer) → refusal_of (now_of d).present.items call ≡ Some r → is_done answer ≡ false
  refused_where legal r some = step (refusal_of (now_of d).present.items call) refl (answered legal)
    where
      step : (o : Option Answer) → refusal_of (now_of d).present.items call ≡ o → IsAnswerOr d.gap d.request_ms (now_of d) call o answer
          → is_done answer ≡ false
      step None e h = absurd (cc)
      step (Some q) e h = ap is_done h ∙ refusal-not_done (now_of d).present.items call q e

-- ---- places, and an entry more

stands_more : (P : Entry → Type 0) (xs more : List Entry) (i : ℕ) → HasEntryAt P xs i → HasEntryAt P (xs ++ more) i
stands_more P [] more i s = absurd (not_in_nil P i s)
stands_more P (x ∷ xs) more zero s = at_head P x (xs ++ more) (head_is P x xs s)
stands_more P (x ∷ xs) more (suc i) s = at_tail P x (xs ++ more) i (stands_more P xs more i (from_tail P x xs i s))

stands_last : (P : Entry → Type 0) (xs : List Entry) (e : Entry) → P e → HasEntryAt P (xs ++ e ∷ []) (length xs)
stands_last P [] e h = at_head P e [] h
stands_last P (x ∷ xs) e h = at_tail P x (xs ++ e ∷ []) (length xs) (stands_last P xs e h)

stands_split : (P : Entry → Type 0) (xs : List Entry) (e : Entry) (i : ℕ) → HasEntryAt P (xs ++ e ∷ []) i → HasEntryAt P xs i ⊎ P e
stands_split P [] e zero s = inr (head_is P e [] s)
stands_split P [] e (suc i) s = absurd (not_in_nil P i (from_tail P e [] i s))
stands_split P (x ∷ xs) e zero s = inl (at_head P x xs (head_is P x (xs ++ e ∷ []) s))
stands_split P (x ∷ xs) e (suc i) s =
    elim (stands_split P xs e i (from_tail P x (xs ++ e ∷ []) i s)) [ inl a ↦ inl (at_tail P x xs i a) | inr b ↦ inr b ]

greatest_same : (base : Base) (xs more : List Entry) (i : ℕ) → i < length xs → greatest_until base (xs ++ more) i ≡ greatest_until base xs i
greatest_same base xs more i below =
    ap (λ (es : List Entry). fold (λ m e. moment_after m e.call) base.greatest es) (take-append-le (i + 1) xs more (omega arith))

greatest_fold : (ms : ℕ) (base : Base) (xs : List Entry) → (base_after ms base xs).greatest ≡ fold (λ m e. moment_after m e.call) base.greatest xs
greatest_fold ms base [] = refl
greatest_fold ms base (e ∷ xs) = greatest_fold ms (base_with ms base e) xs

greatest_last : (ms : ℕ) (base : Base) (xs : List Entry) (e : Entry)
    → greatest_until base (xs ++ e ∷ []) (length xs) ≡ moment_after (base_after ms base xs).greatest e.call
greatest_last ms base xs e =
    ap (λ (es : List Entry). fold (λ m x. moment_after m x.call) base.greatest es) (take-append-add xs (e ∷ []) 1)
    ∙ (fold-append (λ m x. moment_after m x.call) base.greatest xs (e ∷ [])
    ∙ ap (λ (m : ℕ). moment_after m e.call) (sym (greatest_fold ms base xs)))

-- ---- what an owner holds

-- the owner's last request that was done is at this place, and was made in this stay
pub record IsLastAsked (entries : List Entry) (owner stay : ℕ) (a : Asked) (place : ℕ) : Type 0 where
  pub request : HasEntryAt (WasDone (IsRequestIn owner stay a.tuple)) entries place
  pub last : (later : ℕ) (other : Tuple) → place < later → ¬ HasEntryAt (WasDone (IsRequestOf owner other)) entries later
  pub stamp : a.stamp ≡ greatest_until empty_base entries place

-- the owner asked for this word last: for none, or for the one that it asks for, or for one that an expire took
pub data Holding (ms : ℕ) (entries : List Entry) (owner stay : ℕ) (asked : Option Asked) (word : Option ℕ) : Type 0 where
  silent : asked ≡ None → word ≡ None → Holding ms entries owner stay asked word
  asking : (a : Asked) (place : ℕ) → asked ≡ Some a → word ≡ Some (word_of a.tuple) → IsLastAsked entries owner stay a place
      → Holding ms entries owner stay asked word
  taken : (w : ℕ) → asked ≡ None → word ≡ Some w → ExpireTook ms entries owner stay w → Holding ms entries owner stay asked word

-- one entry more, which is no request of the owner that was done
module _ (ms owner stay : ℕ) (entries : List Entry) (e : Entry) (none : (t : Tuple) → ¬ WasDone (IsRequestOf owner t) e) where
  abbrev shown : ℕ
  shown = moment_after (base_after ms empty_base entries).greatest e.call

  still_last : (place : ℕ) → ((later : ℕ) (other : Tuple) → place < later → ¬ HasEntryAt (WasDone (IsRequestOf owner other)) entries later)
      → (later : ℕ) (other : Tuple) → place < later → ¬ HasEntryAt (WasDone (IsRequestOf owner other)) (entries ++ e ∷ []) later
  still_last place last later other behind s =
      elim (stands_split (WasDone (IsRequestOf owner other)) entries e later s) [
        | inl a ↦ last later other behind a
        | inr b ↦ none other b
      ]

  last_more : (a : Asked) (place : ℕ) → IsLastAsked entries owner stay a place → IsLastAsked (entries ++ e ∷ []) owner stay a place
  last_more a place h = record {
    request = stands_more (WasDone (IsRequestIn owner stay a.tuple)) entries (e ∷ []) place h.request;
    last = still_last place h.last;
    stamp = h.stamp ∙ sym (greatest_same empty_base entries (e ∷ []) place (within (WasDone (IsRequestIn owner stay a.tuple)) entries place h.request));
  }

  took_more : (w : ℕ) → ExpireTook ms entries owner stay w → ExpireTook ms (entries ++ e ∷ []) owner stay w
  took_more w h =
      let asked_in : h.asked < length entries = within (WasDone (IsRequestIn owner stay h.tuple)) entries h.asked h.request in
      let place_in : h.place < length entries = within (WasDone IsExpire) entries h.place h.takes.expire in
      let stamps = greatest_same empty_base entries (e ∷ []) h.asked asked_in in
      let nows = greatest_same empty_base entries (e ∷ []) h.place place_in in
      record {
        tuple = h.tuple;
        asks = h.asks;
        asked = h.asked;
        request = stands_more (WasDone (IsRequestIn owner stay h.tuple)) entries (e ∷ []) h.asked h.request;
        last = still_last h.asked h.last;
        place = h.place;
        behind = h.behind;
        takes = record {
          expire = stands_more (WasDone IsExpire) entries (e ∷ []) h.place h.takes.expire;
          some_limit = h.takes.some_limit;
          old = omega (arith, h.takes.old, stamps, nows);
        };
      }

  holding_rests : (before after : Option Asked) (word : Option ℕ) → after ≡ before → Holding ms entries owner stay before word
      → Holding ms (entries ++ e ∷ []) owner stay after word
  holding_rests before after word same (silent quiet is) = silent (same ∙ quiet) is
  holding_rests before after word same (asking a place has is h) = asking a place (same ∙ has) is (last_more a place h)
  holding_rests before after word same (taken w quiet is h) = taken w (same ∙ quiet) is (took_more w h)

  holding_expires : (before after : Option Asked) (word : Option ℕ) → WasDone IsExpire e
      → after ≡ unless_old ms (moment_after (base_after ms empty_base entries).greatest e.call) before → Holding ms entries owner stay before word
      → Holding ms (entries ++ e ∷ []) owner stay after word
  holding_expires before after word expire same (silent quiet is) = silent (same ∙ ap (unless_old ms _) quiet) is
  holding_expires before after word expire same (taken w quiet is h) = taken w (same ∙ ap (unless_old ms _) quiet) is (took_more w h)
  holding_expires before after word expire same (asking a place has is h) =
      step (is_old ms shown a.stamp) refl (same ∙ ap (unless_old ms shown) has)
    where
      old_is : is_old ms shown a.stamp ≡ true → (1 ≤ ms) × (a.stamp + ms ≤ shown)
      old_is old = (grind (arith, nat_tests, old), grind (arith, nat_tests, old))

      step : (b : Bool) → is_old ms shown a.stamp ≡ b → after ≡ cond b None (Some a) → Holding ms (entries ++ e ∷ []) owner stay after word
      step false young here = asking a place here is (last_more a place h)
      step true old here =
          let limits = old_is old in
          let more = last_more a place h in
          let at : greatest_until empty_base (entries ++ e ∷ []) (length entries) ≡ shown = greatest_last ms empty_base entries e in
          taken (word_of a.tuple) here is (record {
            tuple = a.tuple;
            asks = refl;
            asked = place;
            request = more.request;
            last = more.last;
            place = length entries;
            behind = within (WasDone (IsRequestIn owner stay a.tuple)) entries place h.request;
            takes = record {
              expire = stands_last (WasDone IsExpire) entries e expire;
              some_limit = limits.0;
              old = omega (arith, limits.1, more.stamp, at);
            };
          })

-- a request of the owner that was done
pub holding_asked : (ms owner stay : ℕ) (entries : List Entry) (e : Entry) (t : Tuple) (after : Option Asked) → WasDone (IsRequestIn owner stay t) e
    → after ≡ asked_as t (moment_after (base_after ms empty_base entries).greatest e.call)
    → Holding ms (entries ++ e ∷ []) owner stay after (Some (word_of t))
holding_asked ms owner stay entries e t after done is =
    let now = moment_after (base_after ms empty_base entries).greatest e.call in
    let size : length (entries ++ e ∷ []) ≡ length entries + 1 = length-append entries (e ∷ []) in
    asking (record { tuple = t; stamp = now }) (length entries) is refl (record {
      request = stands_last (WasDone (IsRequestIn owner stay t)) entries e done;
      last = λ later other behind s. absurd (omega (arith, size, behind, within (WasDone (IsRequestOf owner other)) (entries ++ e ∷ []) later s));
      stamp = sym (greatest_last ms empty_base entries e);
    })

-- ---- a call that isn't this owner's

abbrev pub NotBy : ℕ → Call → Type 0
NotBy owner (Stay o stay change) = o.0 ≢ owner
NotBy owner (Time moment signal) = Unit {0}

not_asked : (owner : ℕ) (call : Call) (t : Tuple) → NotBy owner call → ¬ IsRequestOf owner t call
not_asked owner (Stay o stay change) t other h = other h.0
not_asked owner (Time moment signal) t other h = h

not_gone : (owner : ℕ) (call : Call) → NotBy owner call → ¬ IsDepartOf owner call
not_gone owner (Stay o stay change) other h = other h.0
not_gone owner (Time moment signal) other h = h

not_come : (owner stay : ℕ) (call : Call) → NotBy owner call → ¬ IsArriveOf owner stay call
not_come owner stay (Stay o s change) other h = other h.0
not_come owner stay (Time moment signal) other h = h

-- the call is refused, or another's
abbrev pub IsOther : ℕ → Bool → Call → Type 0
IsOther owner done call = (done ≡ false) ⊎ NotBy owner call

module _ (owner : ℕ) (call : Call) (done : Bool) (other : IsOther owner done call) where
  pub no_request : (t : Tuple) → ¬ Was (IsRequestOf owner t) done call
  no_request t h = elim other [ inl refused ↦ both_ways done refused h.0 | inr apart ↦ not_asked owner call t apart h.1 ]

  pub no_depart : ¬ Was (IsDepartOf owner) done call
  no_depart h = elim other [ inl refused ↦ both_ways done refused h.0 | inr apart ↦ not_gone owner call apart h.1 ]

  pub no_arrive : (stay : ℕ) → ¬ Was (IsArriveOf owner stay) done call
  no_arrive stay h = elim other [ inl refused ↦ both_ways done refused h.0 | inr apart ↦ not_come owner stay call apart h.1 ]

pub other_stays : (ms now owner : ℕ) (before after : Known) (done : Bool) (call : Call) → IsOther owner done call
    → Step ms now owner before after done call → after.stay ≡ before.stay
other_stays ms now owner before after done call other (arrives s h absent stays quiet) = absurd (no_arrive owner call done other s h)
other_stays ms now owner before after done call other (asks t h stays asked) = stays
other_stays ms now owner before after done call other (departs h gone) = absurd (no_depart owner call done other h)
other_stays ms now owner before after done call other (expires h stays asked) = stays
other_stays ms now owner before after done call other (rests a r d x stays asked) = stays

pub other_holds : (ms owner stay : ℕ) (entries : List Entry) (e : Entry) (before after : Known) (word : Option ℕ) → IsOther owner (is_done e.answer) e.call
    → Step ms (moment_after (base_after ms empty_base entries).greatest e.call) owner before after (is_done e.answer) e.call
    → Holding ms entries owner stay before.asked word → Holding ms (entries ++ e ∷ []) owner stay after.asked word
other_holds ms owner stay entries e before after word other (arrives s h absent stays quiet) held =
    absurd (no_arrive owner e.call (is_done e.answer) other s h)
other_holds ms owner stay entries e before after word other (asks t h stays asked) held =
    absurd (no_request owner e.call (is_done e.answer) other t h)
other_holds ms owner stay entries e before after word other (departs h gone) held = absurd (no_depart owner e.call (is_done e.answer) other h)
other_holds ms owner stay entries e before after word other (expires h stays asked) held =
    holding_expires ms owner stay entries e (no_request owner e.call (is_done e.answer) other) before.asked after.asked word h asked held
other_holds ms owner stay entries e before after word other (rests a r d x stays asked) held =
    holding_rests ms owner stay entries e (no_request owner e.call (is_done e.answer) other) before.asked after.asked word asked held
