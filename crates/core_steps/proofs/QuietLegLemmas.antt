-- What a recorded call makes of a desk, and of the leg whose subscriber asks there.
use Rattle.std.proofs.Common.{◌≡◌, ◌≢◌, ℕ, zero, suc, ◌<◌, ◌≤◌, List, [], ◌∷◌, ◌++◌, length, get_or, map, refl, sym, ap, subst, ◌∙◌, arith, Option, Some, None, Bool, true, false, cond, inl, inr, append-nil}
use Rattle.std.specs.Prelude.{◌⊎◌, ◌==◌, slice_get, slice_set, AllPairs, Contains}
use Rattle.std.specs.Cmp.{IsEquivalence}
use Rattle.std.specs.Option.{option_map_or}
use Rattle.std.specs.Set.{is_member}
use Rattle.std.proofs.Math.Dec.{eqb}
use Rattle.std.proofs.lemmas.Bool.{eq-eqb, eqb-true}
use Rattle.std.proofs.lemmas.Bool.Decides.{nat_tests, Decides-eqb}
use Rattle.std.proofs.lemmas.Grind.{flat_map-append}
use Rattle.std.proofs.lemmas.List.{length-map}
use Rattle.std.proofs.lemmas.List.Elements.{All-map}
use Rattle.std.proofs.lemmas.List.Kept.{AllPairs-cons}
use Rattle.std.proofs.lemmas.Map.Made.{is_member-Decides, length-le_from_is_member, IsDistinct-from_AllPairs}
use Rattle.std.proofs.lemmas.Option.{none-some, same_Some, slice_get_within, get_or_from_slice_get}
use Rattle.tmmbr_tuple.specs.declared.ssrc.Ssrc.{Ssrc}
use Rattle.tmmbr_tuple.specs.declared.tuple.Tuple.{Tuple}
use Rattle.tmmbr_tuple.specs.Tuple.{word_of}
use Rattle.settings.specs.declared.settings.LegSettings.{LegSettings}
use Rattle.settings.specs.Settings.{Configuration, IsInRange, IsLegAmong}
use Rattle.desk.specs.declared.call.Call.{Call as DeskCall}
use Rattle.desk.specs.declared.call.Call.TheVariants.{Stay, Time}
use Rattle.desk.specs.declared.call.Answer.{Answer}
use Rattle.desk.specs.declared.call.Entry.{Entry}
use Rattle.desk.specs.declared.presence.Present.{Present}
use Rattle.desk.specs.declared.presence.TheConstants.{PRESENT_LIMIT}
use Rattle.desk.specs.declared.base.Base.{Base}
use Rattle.desk.specs.Call.{moment_after, is_done}
use Rattle.desk.specs.Presence.{HasRisingOwners, HasStays, presence_of, stay_in, asked_in, refusal_of}
use Rattle.desk.specs.Trace.{IsBase, empty_base, base_with, base_after}
use Rattle.desk.specs.Places.{IsArriveOf, IsRequestOf, IsDepartOf, IsExpire}
use Rattle.desk.specs.State.{DeskState, HoldsLegalDesk, Records, now_of}
use Rattle.desk.proofs.PresenceLemmas.{presence_of-place}
use Rattle.desk.proofs.SinceLemmas.{known_in, Was, Step, arrives, asks, departs, expires, rests, arrived, requested, stay_on}
use Rattle.desk.proofs.TraceLemmas.{IsBase-with, answer_follows, base_after-push}
use Rattle.desk_calls.specs.DeskCalls.{source_of}
use Rattle.core_steps.specs.Happening.{RecordedCall}
use Rattle.settings.specs.Links.{table_of}
use Rattle.core_steps.specs.Rule.{IsRecordedCall}
use Rattle.core_steps.specs.Traces.{entry_at, entries_at, IsRequestIn}
use Rattle.core_steps.proofs.QuietDeskLemmas.{entry_of, now_with, answered, has_stay, owner_step, done_where, refused_where, Holding, silent, holding_asked, IsOther, other_stays, other_holds}

-- ---- lists

pub set_cases : {X : Type 0} (xs : List X) (k i : ℕ) (x y : X) → slice_get (slice_set xs k x) i ≡ Some y
    → ((k ≡ i) × (y ≡ x)) ⊎ ((k ≢ i) × (slice_get xs i ≡ Some y))
set_cases [] k i x y h = absurd (none-some y h)
set_cases (z ∷ zs) zero zero x y h = inl (refl, sym (same_Some x y h))
set_cases (z ∷ zs) zero (suc i) x y h = inr (λ e. absurd (omega (arith, e)), h)
set_cases (z ∷ zs) (suc k) zero x y h = inr (λ e. absurd (omega (arith, e)), h)
set_cases (z ∷ zs) (suc k) (suc i) x y h =
    elim (set_cases zs k i x y h) [
      | inl a ↦ inl (ap suc a.0, a.1)
      | inr b ↦ inr (λ e. b.0 (omega (arith, e)), b.1)
    ]

apart : (a b : ℕ) → a ≢ b → (a == b) ≡ false
apart a b differs = grind (arith, nat_tests)

-- ---- what a desk recorded

abbrev pub its_entry : RecordedCall → Entry
its_entry a = entry_of a.call a.answer

pub entries_own : (p : ℕ) (asked : List RecordedCall) (a : RecordedCall) → a.publisher ≡ p
    → entries_at p (asked ++ a ∷ []) ≡ entries_at p asked ++ entry_of a.call a.answer ∷ []
entries_own p asked a same =
    flat_map-append (entry_at p) asked (a ∷ [])
    ∙ ap (λ (es : List Entry). entries_at p asked ++ es)
    (append-nil (entry_at p a) ∙ ap (λ (b : Bool). cond b (its_entry a ∷ []) []) (eq-eqb a.publisher p same))

pub entries_other : (p : ℕ) (asked : List RecordedCall) (a : RecordedCall) → a.publisher ≢ p → entries_at p (asked ++ a ∷ []) ≡ entries_at p asked
entries_other p asked a differs =
    flat_map-append (entry_at p) asked (a ∷ [])
    ∙ (ap (λ (es : List Entry). entries_at p asked ++ es)
    (append-nil (entry_at p a) ∙ ap (λ (b : Bool). cond b (its_entry a ∷ []) []) (apart a.publisher p differs))
    ∙ append-nil (entries_at p asked))

-- ---- a desk

-- the source of a leg's subscriber
abbrev pub asker : Configuration → LegSettings → ℕ
asker c l = (source_of (table_of c) l.subscriber).0

-- the owner is the subscriber of a leg of this publisher
pub record IsOfLeg (c : Configuration) (publisher owner : ℕ) : Type 0 where
  pub number : ℕ
  pub leg : LegSettings
  pub there : slice_get c.legs number ≡ Some leg
  pub from : leg.publisher ≡ publisher
  pub to : asker c leg ≡ owner

abbrev pub IsByLeg : Configuration → ℕ → DeskCall → Type 0
IsByLeg c p (Stay o stay change) = IsOfLeg c p o.0
IsByLeg c p (Time moment signal) = Unit {0}

pub record IsKeptDesk (c : Configuration) (p : ℕ) (d : DeskState) (asked : List RecordedCall) : Type 0 where
  pub legal : HoldsLegalDesk d
  pub ms : d.request_ms ≡ c.request_ms
  pub by : now_of d ≡ base_after c.request_ms empty_base (entries_at p asked)
  pub base : IsBase (now_of d)
  pub owners : (owner : ℕ) → 1 ≤ stay_in (now_of d).present.items owner → IsOfLeg c p owner

come_of_leg : (c : Configuration) (p owner stay : ℕ) (call : DeskCall) → IsByLeg c p call → IsArriveOf owner stay call → IsOfLeg c p owner
come_of_leg c p owner stay (Stay o s change) by h = subst (λ (x : ℕ). IsOfLeg c p x) h.0 by
come_of_leg c p owner stay (Time moment signal) by h = absurd h

-- this call, which this desk recorded
module _ (c : Configuration) (p : ℕ) (d : DeskState) (asked : List RecordedCall) (call : DeskCall) (a : RecordedCall)
    (keeps : IsKeptDesk c p d asked) (recorded : IsRecordedCall p d call a) where
  abbrev entries : List Entry
  entries = entries_at p asked

  as_named : Records d a.call a.number a.answer a.desk
  as_named = subst (λ (x : DeskCall). Records d x a.number a.answer a.desk) (sym recorded.names) recorded.records

  pub stepped : (owner : ℕ)
      → Step c.request_ms (moment_after (base_after c.request_ms empty_base (entries_at p asked)).greatest a.call) owner
      (known_in (now_of d).present.items owner) (known_in (now_of a.desk).present.items owner) (is_done a.answer) a.call
  stepped owner =
      subst (λ (b : Base). Step c.request_ms (moment_after b.greatest a.call) owner
      (known_in (now_of d).present.items owner) (known_in (now_of a.desk).present.items owner) (is_done a.answer) a.call) keeps.by
      (subst (λ (ms : ℕ). Step ms (moment_after (now_of d).greatest a.call) owner
      (known_in (now_of d).present.items owner) (known_in (now_of a.desk).present.items owner) (is_done a.answer) a.call) keeps.ms
      (owner_step d a.desk a.call a.number a.answer as_named recorded.legal owner))

  pub kept_more : IsByLeg c p call → IsKeptDesk c p a.desk (asked ++ a ∷ [])
  kept_more leg = record {
    legal = recorded.legal;
    ms = recorded.records.request_ms ∙ keeps.ms;
    by = now_with d a.desk a.call a.number a.answer as_named
        ∙ (ap (λ (ms : ℕ). base_with ms (now_of d) (its_entry a)) keeps.ms
        ∙ (ap (λ (b : Base). base_with c.request_ms b (its_entry a)) keeps.by
        ∙ (sym (base_after-push c.request_ms empty_base (entries_at p asked) (its_entry a))
        ∙ ap (λ (es : List Entry). base_after c.request_ms empty_base es) (sym (entries_own p asked a recorded.publisher)))));
    base = subst (λ (b : Base). IsBase b) (sym (now_with d a.desk a.call a.number a.answer as_named))
        (IsBase-with d.request_ms (now_of d) (its_entry a) keeps.base
        (answer_follows d.gap d.request_ms (now_of d) (its_entry a) (has_stay d a.desk a.call a.number a.answer as_named recorded.legal)
        (answered d a.desk a.call a.number a.answer as_named recorded.legal)));
    owners = λ owner some. of_owner owner some (stepped owner);
  }
    where
      by_name : IsByLeg c p a.call
      by_name = subst (λ (x : DeskCall). IsByLeg c p x) (sym recorded.names) leg

      of_owner : (owner : ℕ) → 1 ≤ stay_in (now_of a.desk).present.items owner
          → Step c.request_ms (moment_after (base_after c.request_ms empty_base (entries_at p asked)).greatest a.call) owner
          (known_in (now_of d).present.items owner) (known_in (now_of a.desk).present.items owner) (is_done a.answer) a.call
          → IsOfLeg c p owner
      of_owner owner some (arrives s h absent stays quiet) = come_of_leg c p owner s a.call by_name h.1
      of_owner owner some (asks t h stays asks_it) = keeps.owners owner (omega (arith, some, stays))
      of_owner owner some (departs h gone) = absurd (omega (arith, some, gone))
      of_owner owner some (expires h stays asks_it) = keeps.owners owner (omega (arith, some, stays))
      of_owner owner some (rests x y z v stays asks_it) = keeps.owners owner (omega (arith, some, stays))

  pub done_of : refusal_of (now_of d).present.items a.call ≡ None → is_done a.answer ≡ true
  done_of none = done_where d a.desk a.call a.number a.answer as_named recorded.legal none

  pub refused_of : (r : Answer) → refusal_of (now_of d).present.items a.call ≡ Some r → is_done a.answer ≡ false
  refused_of r some = refused_where d a.desk a.call a.number a.answer as_named recorded.legal r some

-- ---- a leg's subscriber at the desk

request_in : (owner stay : ℕ) (t : Tuple) (call : DeskCall) → IsRequestIn owner stay t call → IsRequestOf owner t call
request_in owner stay t (Stay o s change) is = (is.0, is.1.1)
request_in owner stay t (Time moment signal) is = is

-- with this stay the leg's subscriber is present, 0 if it isn't; and this is the last word that it asked for in it
pub record IsAsking (c : Configuration) (l : LegSettings) (d : DeskState) (asked : List RecordedCall) (stay : ℕ) (word : Option ℕ) : Type 0 where
  pub stays : stay_in (now_of d).present.items (asker c l) ≡ stay
  pub holds : 1 ≤ stay → Holding c.request_ms (entries_at l.publisher asked) (asker c l) stay (asked_in (now_of d).present.items (asker c l)) word

module _ (c : Configuration) (l : LegSettings) (d : DeskState) (asked : List RecordedCall) (call : DeskCall) (a : RecordedCall)
    (keeps : IsKeptDesk c l.publisher d asked) (recorded : IsRecordedCall l.publisher d call a) where
  abbrev own_step : Step c.request_ms (moment_after (base_after c.request_ms empty_base (entries_at l.publisher asked)).greatest a.call) (asker c l)
      (known_in (now_of d).present.items (asker c l)) (known_in (now_of a.desk).present.items (asker c l)) (is_done a.answer) a.call
  own_step = stepped c l.publisher d asked call a keeps recorded (asker c l)

  abbrev after_stay : ℕ
  after_stay = stay_in (now_of a.desk).present.items (asker c l)

  held_more : (stay : ℕ) (word : Option ℕ)
      → Holding c.request_ms (entries_at l.publisher asked ++ entry_of a.call a.answer ∷ []) (asker c l) stay
      (asked_in (now_of a.desk).present.items (asker c l)) word
      → Holding c.request_ms (entries_at l.publisher (asked ++ a ∷ [])) (asker c l) stay (asked_in (now_of a.desk).present.items (asker c l)) word
  held_more stay word h =
      subst (λ (es : List Entry). Holding c.request_ms es (asker c l) stay (asked_in (now_of a.desk).present.items (asker c l)) word)
      (sym (entries_own l.publisher asked a recorded.publisher)) h

  pub asking_other : (stay : ℕ) (word : Option ℕ) → IsOther (asker c l) (is_done a.answer) a.call → IsAsking c l d asked stay word
      → IsAsking c l a.desk (asked ++ a ∷ []) stay word
  asking_other stay word other h = record {
    stays = other_stays c.request_ms _ (asker c l) _ _ (is_done a.answer) a.call other own_step ∙ h.stays;
    holds = λ some. held_more stay word
        (other_holds c.request_ms (asker c l) stay (entries_at l.publisher asked) (its_entry a) (known_in (now_of d).present.items (asker c l))
        (known_in (now_of a.desk).present.items (asker c l)) word other own_step (h.holds some));
  }

  pub asking_arrived : (stay : ℕ) → Was (IsArriveOf (asker c l) stay) (is_done a.answer) a.call → IsAsking c l a.desk (asked ++ a ∷ []) stay None
  asking_arrived stay was =
      let is = arrived c.request_ms _ (asker c l) (known_in (now_of d).present.items (asker c l))
      (known_in (now_of a.desk).present.items (asker c l)) (is_done a.answer) a.call stay was own_step in
      record { stays = is.0; holds = λ some. silent is.1 refl }

  pub asking_departed : (word : Option ℕ) → Was (IsDepartOf (asker c l)) (is_done a.answer) a.call
      → ((s : ℕ) → IsArriveOf (asker c l) s a.call → ⊥) → ((t : Tuple) → IsRequestOf (asker c l) t a.call → ⊥)
      → (Was IsExpire (is_done a.answer) a.call → ⊥)
      → IsAsking c l a.desk (asked ++ a ∷ []) 0 word
  asking_departed word was no_arrive no_request no_expire = record { stays = gone own_step; holds = λ some. absurd (omega (arith, some)) }
    where
      gone : Step c.request_ms (moment_after (base_after c.request_ms empty_base (entries_at l.publisher asked)).greatest a.call) (asker c l)
          (known_in (now_of d).present.items (asker c l)) (known_in (now_of a.desk).present.items (asker c l)) (is_done a.answer) a.call
          → after_stay ≡ 0
      gone (arrives s h absent stays quiet) = absurd (no_arrive s h.1)
      gone (asks t h stays asks_it) = absurd (no_request t h.1)
      gone (departs h is) = is
      gone (expires h stays asks_it) = absurd (no_expire h)
      gone (rests x y z v stays asks_it) = absurd (z was)

  pub asking_requested : (stay : ℕ) (word : Option ℕ) (t : Tuple) → 1 ≤ stay → Was (IsRequestIn (asker c l) stay t) (is_done a.answer) a.call
      → (IsDepartOf (asker c l) a.call → ⊥) → IsAsking c l d asked stay word → IsAsking c l a.desk (asked ++ a ∷ []) stay (Some (word_of t))
  asking_requested stay word t some was no_depart h = record {
    stays = stay_on c.request_ms _ (asker c l) (known_in (now_of d).present.items (asker c l))
        (known_in (now_of a.desk).present.items (asker c l)) (is_done a.answer) a.call stay some h.stays (λ gone. no_depart gone.1) own_step;
    holds = λ _. held_more stay (Some (word_of t))
        (holding_asked c.request_ms (asker c l) stay (entries_at l.publisher asked) (its_entry a) t
        (asked_in (now_of a.desk).present.items (asker c l)) was
        (requested c.request_ms _ (asker c l) (known_in (now_of d).present.items (asker c l))
        (known_in (now_of a.desk).present.items (asker c l)) (is_done a.answer) a.call t (was.0, request_in (asker c l) stay t a.call was.1) own_step));
  }

-- ---- room for who arrives

eqb_refl : (x : ℕ) → eqb x x ≡ true
eqb_refl x = eq-eqb x x refl

eqb_symm : (x y : ℕ) → eqb x y ≡ eqb y x
eqb_symm x y = grind (arith, nat_tests)

numbers : IsEquivalence eqb
numbers = record { refl = eqb_refl; symm = eqb_symm; congr = λ x y z h. ap (λ (k : ℕ). eqb k z) (eqb-true x y h) }

abbrev owners_in : List Present → List ℕ
owners_in present = map (λ (p : Present). p.owner.0) present

abbrev sources_in : Configuration → List ℕ
sources_in c = map (λ (e : Ssrc). e.0) c.endpoints

source_among : (c : Configuration) (p owner : ℕ) → IsInRange c → IsOfLeg c p owner → Contains (sources_in c) owner
source_among c p owner range of =
    let at : of.number < length c.legs = slice_get_within c.legs of.number of.leg of.there in
    let legs : get_or c.legs of.number of.leg ≡ of.leg = get_or_from_slice_get c.legs of.number of.leg of.leg of.there in
    let is : IsLegAmong (length c.endpoints) of.leg = subst (λ (x : LegSettings). IsLegAmong (length c.endpoints) x) legs (range.legs of.number of.leg at) in
    let size : length (sources_in c) ≡ length c.endpoints = length-map c.endpoints (λ (e : Ssrc). e.0) in
    (of.leg.subscriber, omega (arith, size, is.subscriber), read c.endpoints of.leg.subscriber owner is.subscriber of.to)
  where
    read : (es : List Ssrc) (k o : ℕ) → k < length es → (get_or es k (record { 0 = 0 })).0 ≡ o → get_or (map (λ (e : Ssrc). e.0) es) k o ≡ o
    read [] k o below h = absurd (omega arith)
    read (e ∷ es) zero o below h = h
    read (e ∷ es) (suc k) o below h = read es k o (omega arith) h

present_stay : (present : List Present) (k : ℕ) (d : Present) → HasRisingOwners present → HasStays present → k < length present
    → 1 ≤ stay_in present (get_or present k d).owner.0
present_stay present k d rising stays below =
    let owner : ℕ = (get_or present k d).owner.0 in
    let here : presence_of present owner ≡ Some (get_or present k d) =
    presence_of-place present owner k d rising (record { in_range = below; is_owner = λ x. ap (λ (p : Present). p.owner.0) (same present k x d below) }) in
    let its : stay_in present owner ≡ (get_or present k d).stay =
    ap (λ (o : Option Present). option_map_or (λ (p : Present). p.stay) o 0) here in
    omega (arith, its, stays k d below)
  where
    same : (xs : List Present) (i : ℕ) (x y : Present) → i < length xs → get_or xs i x ≡ get_or xs i y
    same [] i x y low = absurd (omega arith)
    same (z ∷ xs) zero x y low = refl
    same (z ∷ xs) (suc i) x y low = same xs i x y (omega arith)

pub few_present : (c : Configuration) (p : ℕ) (d : DeskState) (asked : List RecordedCall) (owner : ℕ) → IsInRange c → IsKeptDesk c p d asked
    → IsOfLeg c p owner → stay_in (now_of d).present.items owner ≡ 0 → length (now_of d).present.items < PRESENT_LIMIT
few_present c p d asked owner range keeps of absent =
    let sizes : length (owners_in present) ≡ length present = length-map present (λ (q : Present). q.owner.0) in
    let all : length (owner ∷ owners_in present) ≤ length (sources_in c)
    = length-le_from_is_member numbers (owner ∷ owners_in present) (sources_in c)
    (IsDistinct-from_AllPairs Decides-eqb (owner ∷ owners_in present) distinct) among in
    let size : length (sources_in c) ≡ length c.endpoints = length-map c.endpoints (λ (e : Ssrc). e.0) in
    omega (arith, sizes, all, size, range.most_endpoints)
  where
    present : List Present
    present = (now_of d).present.items

    differs : (k : ℕ) (q : Present) → k < length (now_of d).present.items → owner ≢ (get_or (now_of d).present.items k q).owner.0
    differs k q below same =
        let some = present_stay (now_of d).present.items k q keeps.base.rising keeps.base.stays below in
        let none : stay_in (now_of d).present.items (get_or (now_of d).present.items k q).owner.0 ≡ 0 =
        ap (stay_in (now_of d).present.items) (sym same) ∙ absent in
        absurd (omega (arith, some, none))

    rising : AllPairs (λ x y. x ≢ y) (owners_in (now_of d).present.items)
    rising i j o less below =
        pairs (now_of d).present.items keeps.base.rising i j o less (omega (arith, below, length-map (now_of d).present.items (λ (q : Present). q.owner.0)))
      where
        read : (xs : List Present) (i o : ℕ) (q : Present) → i < length xs → get_or (map (λ (x : Present). x.owner.0) xs) i o ≡ (get_or xs i q).owner.0
        read [] i o q low = absurd (omega arith)
        read (x ∷ xs) zero o q low = refl
        read (x ∷ xs) (suc i) o q low = read xs i o q (omega arith)

        pairs : (xs : List Present) → HasRisingOwners xs → (i j o : ℕ) → i < j → j < length xs
            → get_or (map (λ (x : Present). x.owner.0) xs) i o ≢ get_or (map (λ (x : Present). x.owner.0) xs) j o
        pairs [] rise i j o less below same = absurd (omega arith)
        pairs (x ∷ xs) rise i j o less below same =
            absurd (omega (arith, rise i j x less below, read (x ∷ xs) i o x (omega arith), read (x ∷ xs) j o x below, same))

    distinct : AllPairs (λ x y. x ≢ y) (owner ∷ owners_in (now_of d).present.items)
    distinct = AllPairs-cons (λ x y. x ≢ y) owner (owners_in (now_of d).present.items)
        (All-map (λ x. owner ≢ x) (λ (q : Present). q.owner.0) (now_of d).present.items differs) rising

    among : (q : ℕ) → is_member eqb (owner ∷ owners_in (now_of d).present.items) q ≡ true → is_member eqb (sources_in c) q ≡ true
    among q member =
        let has : Contains (owner ∷ owners_in (now_of d).present.items) q =
        (is_member-Decides Decides-eqb (owner ∷ owners_in (now_of d).present.items) q).0 member in
        (is_member-Decides Decides-eqb (sources_in c) q).1 (found has)
      where
        read : (xs : List Present) (i o : ℕ) (x : Present) → i < length xs → get_or (map (λ (x : Present). x.owner.0) xs) i o ≡ (get_or xs i x).owner.0
        read [] i o q low = absurd (omega arith)
        read (x ∷ xs) zero o q low = refl
        read (x ∷ xs) (suc i) o q low = read xs i o q (omega arith)

        found : Contains (owner ∷ owners_in (now_of d).present.items) q → Contains (sources_in c) q
        found (zero, below, is) = subst (λ (x : ℕ). Contains (sources_in c) x) is (source_among c p owner range of)
        found (suc k, below, is) =
            let p0 : Present = record { owner = record { 0 = q }; stay = 0; asked = None } in
            let low : k < length (now_of d).present.items = omega (arith, below, length-map (now_of d).present.items (λ (x : Present). x.owner.0)) in
            let its = keeps.owners (get_or (now_of d).present.items k p0).owner.0
            (present_stay (now_of d).present.items k p0 keeps.base.rising keeps.base.stays low) in
            subst (λ (x : ℕ). Contains (sources_in c) x) (sym (read (now_of d).present.items k q p0 low) ∙ is) (source_among c p _ range its)
