-- What a desk holds after a call that it recorded.
use Rattle.std.proofs.Common.{◌≡◌, ℕ, ◌+◌, ◌-◌, ◌≤◌, ◌<◌, Bool, true, false, cond, List, [], ◌∷◌, ◌++◌, length, drop, inl, inr, None, Some, refl, sym, ap, subst, ◌∙◌, arith}
use Rattle.std.specs.Prelude.{◌↔◌, IsTrue, nat_lt, slice_get, All}
use Rattle.std.proofs.lemmas.Bool.{cases_lt, ltb-true, lt-ltb}
use Rattle.std.proofs.lemmas.Bool.Decides.{nat_tests}
use Rattle.std.proofs.lemmas.List.{length_push}
use Rattle.std.proofs.lemmas.List.Elements.{All-push}
use Rattle.circular_buffer.specs.Buffer.{keep_last}
use Rattle.bounding_set.specs.Rows.{HasRisingOwners as RowsRise}
use Rattle.desk.specs.declared.call.Call.{Call}
use Rattle.desk.specs.declared.call.Answer.{Answer}
use Rattle.desk.specs.declared.call.Entry.{Entry}
use Rattle.desk.specs.declared.base.Base.{Base}
use Rattle.desk.specs.declared.base.TheConstants.{CALL_LIMIT}
use Rattle.desk.specs.declared.desk.TheConstants.{HISTORY_LIMIT}
use Rattle.desk.specs.Call.{HasStay}
use Rattle.desk.specs.Trace.{IsBase, empty_base, base_with, base_after, present_with}
use Rattle.desk.specs.Presence.{live_requests}
use Rattle.desk.specs.Answer.{IsAnswerTo}
use Rattle.desk.specs.History.{IsLegalHistory, StandsForEntries, Follows, FirstFollows}
use Rattle.desk.specs.Standing.{Stand, IsStand}
use Rattle.desk.specs.State.{DeskState, IsOverLimit, now_of, call_count}
use Rattle.desk.specs.Held.{IsHeld}
use Rattle.desk.proofs.LiveLemmas.{live-rising}
use Rattle.desk.proofs.EffectLemmas.{announced_once}
use Rattle.desk.proofs.TraceLemmas.{base_after-push, base_after-append, calls-after, present-answered, legal-none, legal-push, legal-folded, legal-first, all-rest, answer_follows}

-- ---- the list

first_out : (request_ms : ℕ) (base : Base) (entries : List Entry) (oldest : Entry) (capacity : ℕ) → capacity ≡ HISTORY_LIMIT
    → length entries ≡ capacity + 1 → slice_get entries 0 ≡ Some oldest
    → StandsForEntries request_ms base entries (base_with request_ms base oldest) (keep_last capacity entries)
first_out request_ms base [] oldest capacity is count first = absurd (omega (arith, count))
first_out request_ms base (x ∷ rest) oldest capacity is count first =
    let same : x ≡ oldest = cc in
    let kept : keep_last capacity (x ∷ rest) ≡ rest = ap (λ k. drop k (x ∷ rest)) {y = 1} (omega (arith, count)) in
    record {
      folded = oldest ∷ [];
      in_turn = ap (λ y. y ∷ rest) same ∙ ap (λ ys. oldest ∷ ys) (sym kept);
      listed = omega (arith, count, is, ap length kept);
      stands = refl;
    }

-- an entry after as many as are listed pushes the oldest out
pub stands-folded : (request_ms : ℕ) (base : Base) (items : List Entry) (e oldest : Entry) (capacity : ℕ) → capacity ≡ HISTORY_LIMIT
    → length items ≤ HISTORY_LIMIT
    → cond (nat_lt (length items) capacity) None (slice_get (items ++ e ∷ []) 0) ≡ Some oldest
    → StandsForEntries request_ms base (items ++ e ∷ []) (base_with request_ms base oldest) (keep_last capacity (items ++ e ∷ []))
stands-folded request_ms base items e oldest capacity is listed some = step (nat_lt (length items) capacity) refl some
  where
    step : (b : Bool) → nat_lt (length items) capacity ≡ b → cond b None (slice_get (items ++ e ∷ []) 0) ≡ Some oldest
        → StandsForEntries request_ms base (items ++ e ∷ []) (base_with request_ms base oldest) (keep_last capacity (items ++ e ∷ []))
    step true less from = absurd (cc)
    step false more from =
        let full : capacity ≤ length items = grind (arith, nat_tests, more) in
        first_out request_ms base (items ++ e ∷ []) oldest capacity is (omega (arith, full, is, listed, length_push items e)) from

pub first-out_is : (capacity : ℕ) (items : List Entry) (e oldest : Entry)
    → cond (nat_lt (length items) capacity) None (slice_get (items ++ e ∷ []) 0) ≡ Some oldest → slice_get (items ++ e ∷ []) 0 ≡ Some oldest
first-out_is capacity items e oldest some = step (nat_lt (length items) capacity) some
  where
    step : (b : Bool) → cond b None (slice_get (items ++ e ∷ []) 0) ≡ Some oldest → slice_get (items ++ e ∷ []) 0 ≡ Some oldest
    step true from = absurd (cc)
    step false from = from

pub first_follows : (gap request_ms : ℕ) (base : Base) (entries : List Entry) → IsLegalHistory gap request_ms base entries
    → All (λ (e : Entry). HasStay e.call) entries → FirstFollows base entries
first_follows gap request_ms base [] legal stays first is = absurd (cc)
first_follows gap request_ms base (e ∷ rest) legal stays first is =
    let same : e ≡ first = cc in
    subst (Follows base) same (answer_follows gap request_ms base e (stays 0 e (omega arith)) (legal-first gap request_ms base e rest legal))

-- ---- a desk

pub calls_of-now : (d : DeskState) → (now_of d).calls ≡ call_count d
calls_of-now d = calls-after d.request_ms d.base d.history

pub whole_calls : (d : DeskState) (room : ℕ) (s : Stand) → IsHeld d room s → s.whole.calls ≡ call_count d
whole_calls d room s held = ap (λ (b : Base). b.calls) held.whole ∙ calls_of-now d

pub room_for_call : (d : DeskState) (room : ℕ) (s : Stand) (call : Call) → IsHeld d room s → ¬ IsOverLimit d call → s.whole.calls < CALL_LIMIT
room_for_call d room s call held fits =
    elim (cases_lt CALL_LIMIT (call_count d + 1 + length (present_with d.request_ms (now_of d) call))) [
      | inl over ↦ absurd (fits over)
      | inr within ↦ omega (arith, within, whole_calls d room s held)
    ]

-- what is tested before a call is recorded
pub over_limit_is : (d : DeskState) (room : ℕ) (s : Stand) (call : Call) (count : ℕ) → IsHeld d room s
    → ((request_ms : ℕ) → count ≡ length (present_with request_ms s.whole call))
    → (CALL_LIMIT - s.whole.calls < 1 + count ↔ IsOverLimit d call)
over_limit_is d room s call count held counted =
    let calls = whole_calls d room s held in
    let within = held.legal.within in
    let same : count ≡ length (present_with d.request_ms (now_of d) call) =
    counted d.request_ms ∙ ap (λ (b : Base). length (present_with d.request_ms b call)) held.whole in
    (λ less. omega (arith, less, calls, within, same), λ over. omega (arith, over, calls, within, same))

-- a new desk
pub held-new : (gap request_ms : ℕ) (s : Stand) → s.whole ≡ empty_base → IsStand s.whole s.bounds → IsBase empty_base
    → IsHeld (record { gap = gap; request_ms = request_ms; base = empty_base; history = []; bounds = s.bounds }) HISTORY_LIMIT s
held-new gap request_ms s whole stand is =
    let rising : RowsRise s.bounds.rows = subst RowsRise (sym stand.live) (live-rising s.whole.present.items stand.base.rising) in
    record {
      legal = record {
        base = is;
        legal = legal-none gap request_ms empty_base;
        stays = λ k d below. absurd (omega (arith, below));
        listed = omega arith;
        within = omega arith;
        live = stand.live ∙ ap (λ (b : Base). live_requests b.present.items) whole;
        rising = rising;
        announced = stand.announced;
        once = announced_once s.bounds rising stand.announced;
      };
      whole = whole;
      capacity = refl;
    }

pub held-made : (gap request_ms : ℕ) (s : Stand) (base : Base) (history : List Entry) (room : ℕ) → base ≡ empty_base → IsBase base
    → history ≡ [] → room ≡ HISTORY_LIMIT → s.whole ≡ empty_base → IsStand s.whole s.bounds
    → IsHeld (record { gap = gap; request_ms = request_ms; base = base; history = history; bounds = s.bounds }) room s
held-made gap request_ms s base history room none is no_entries enough whole stand =
    let Held : Base → List Entry → ℕ → Type 0 = λ b es n.
    IsHeld (record { gap = gap; request_ms = request_ms; base = b; history = es; bounds = s.bounds }) n s in
    subst (λ (b : Base). Held b history room) (sym none)
    (subst (λ (es : List Entry). Held empty_base es room) (sym no_entries)
    (subst (λ (n : ℕ). Held empty_base [] n) (sym enough)
    (held-new gap request_ms s whole stand (subst IsBase none is))))

pub tested : (a b : ℕ) (P : Type 0) → (a < b ↔ P) → (IsTrue (nat_lt a b) ↔ P)
tested a b P both = (λ yes. both.0 (ltb-true a b yes), λ holds. lt-ltb a b (both.1 holds))

module _ (d : DeskState) (room : ℕ) (old new : Stand) (call : Call) (answer : Answer) (held : IsHeld d room old)
    (fits : ¬ IsOverLimit d call) (from : HasStay call) (owed : IsAnswerTo d.gap d.request_ms old.whole call answer) where
  abbrev entry : Entry
  entry = record { call = call; answer = answer }

  pub has_room : call_count d + 1 + length (present_with d.request_ms (now_of d) call) ≤ CALL_LIMIT
  has_room =
      elim (cases_lt CALL_LIMIT (call_count d + 1 + length (present_with d.request_ms (now_of d) call))) [
        | inl over ↦ absurd (fits over)
        | inr within ↦ within
      ]

  owed_now : IsAnswerTo d.gap d.request_ms (now_of d) call answer
  owed_now = subst (λ (b : Base). IsAnswerTo d.gap d.request_ms b call answer) held.whole owed

  pub legal_behind : IsLegalHistory d.gap d.request_ms d.base (d.history ++ entry ∷ [])
  legal_behind = legal-push d.gap d.request_ms d.base d.history entry held.legal.legal owed_now

  pub stays_behind : All (λ (e : Entry). HasStay e.call) (d.history ++ entry ∷ [])
  stays_behind = All-push (λ (e : Entry). HasStay e.call) d.history entry held.legal.stays from

  pub follows : FirstFollows d.base (d.history ++ entry ∷ [])
  follows = first_follows d.gap d.request_ms d.base (d.history ++ entry ∷ []) legal_behind stays_behind

  -- what is held once the entry is listed
  pub held-recorded : (base : Base) (history : List Entry) (space : ℕ) → space ≡ HISTORY_LIMIT → new.whole ≡ base_with d.request_ms old.whole entry
      → IsStand new.whole new.bounds → StandsForEntries d.request_ms d.base (d.history ++ entry ∷ []) base history → IsBase base
      → IsHeld (record { gap = d.gap; request_ms = d.request_ms; base = base; history = history; bounds = new.bounds }) space new
  held-recorded base history space enough whole stand stands is =
      let state : DeskState = record { gap = d.gap; request_ms = d.request_ms; base = base; history = history; bounds = new.bounds } in
      let is_now : now_of state ≡ base_with d.request_ms (now_of d) entry =
      ap (λ (b : Base). base_after d.request_ms b history) stands.stands
      ∙ sym (base_after-append d.request_ms d.base stands.folded history)
      ∙ ap (base_after d.request_ms d.base) (sym stands.in_turn)
      ∙ base_after-push d.request_ms d.base d.history entry in
      let is_whole : new.whole ≡ now_of state =
      whole ∙ ap (λ (b : Base). base_with d.request_ms b entry) held.whole ∙ sym is_now in
      let legal : IsLegalHistory d.gap d.request_ms (base_after d.request_ms d.base stands.folded) history =
      legal-folded d.gap d.request_ms d.base stands.folded history
      (subst (IsLegalHistory d.gap d.request_ms d.base) stands.in_turn legal_behind) in
      let present : length (now_of state).present.items ≡ length (present_with d.request_ms (now_of d) call) =
      ap (λ (b : Base). length b.present.items) is_now ∙ ap length (present-answered d.gap d.request_ms (now_of d) entry owed_now) in
      let calls : (now_of state).calls ≡ call_count d + 1 =
      ap (λ (b : Base). b.calls) is_now ∙ ap (λ n. n + 1) (calls_of-now d) in
      let rising : RowsRise new.bounds.rows =
      subst RowsRise (sym stand.live) (live-rising new.whole.present.items stand.base.rising) in
      record {
        legal = record {
          base = is;
          legal = subst (λ (b : Base). IsLegalHistory d.gap d.request_ms b history) (sym stands.stands) legal;
          stays = all-rest (λ (e : Entry). HasStay e.call) stands.folded history
              (subst (All (λ (e : Entry). HasStay e.call)) stands.in_turn stays_behind);
          listed = omega (arith, stands.listed);
          within = omega (arith, has_room, present, calls, calls_of-now state);
          live = stand.live ∙ ap (λ (b : Base). live_requests b.present.items) is_whole;
          rising = rising;
          announced = stand.announced;
          once = announced_once new.bounds rising stand.announced;
        };
        whole = is_whole;
        capacity = enough;
      }
