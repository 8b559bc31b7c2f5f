-- A desk at which a stay ended: whoever departed isn't present, and doesn't become so without an arrive.
use Rattle.std.proofs.Common.{◌≡◌, ◌≢◌, ◌<◌, ◌≤◌, ◌+◌, ℕ, suc, List, [], ◌∷◌, ◌++◌, length, Option, None, Some, refl, ap, sym, ◌∙◌, subst, inl, inr, arith}
use Rattle.std.specs.Prelude.{All, map}
use Rattle.std.specs.Option.{option_map_or}
use Rattle.std.proofs.lemmas.Bool.Decides.{nat_tests}
use Rattle.tmmbr_tuple.specs.declared.ssrc.Ssrc.{Ssrc}
use Rattle.desk.specs.declared.base.Base.{Base}
use Rattle.desk.specs.declared.base.TheConstants.{CALL_LIMIT}
use Rattle.desk.specs.declared.call.Answer.{Answer}
use Rattle.desk.specs.declared.call.Call.{Call as DeskCall}
use Rattle.desk.specs.declared.call.Call.TheVariants.{Stay, Time}
use Rattle.desk.specs.declared.call.Change.TheVariants as change
use Rattle.desk.specs.declared.call.Entry.{Entry}
use Rattle.desk.specs.declared.presence.Present.{Present}
use Rattle.desk.specs.Call.{HasStay, is_done, moment_after}
use Rattle.desk.specs.History.{IsLegalHistory}
use Rattle.desk.specs.Places.{IsArriveOf}
use Rattle.desk.specs.Presence.{stay_in, unless_present_with}
use Rattle.desk.specs.State.{DeskState, HoldsLegalDesk, IsOverLimit, call_count, now_of}
use Rattle.desk.specs.Trace.{IsBase, base_with, base_after, present_unless, present_with}
use Rattle.desk.proofs.PresenceLemmas.{length-without, presence_of-without, present-named}
use Rattle.desk.proofs.SinceLemmas.{known_in, first_step, stay_back}
use Rattle.desk.proofs.TraceLemmas.{IsBase-with, answer_follows, base_after-append, legal-first, legal-rest, legal-folded, present-answered}
use Rattle.core_steps.specs.Happening.{RecordedCall}
use Rattle.core_steps.specs.Rule.{IsRecordedCall}
use Rattle.core_steps.specs.Traces.{HasRecorded, HasLeft, recorded_entry}
use Rattle.core_steps.proofs.TraceLemmas.{answer-owed, now_after}

-- ---- a desk at which the stay isn't begun anew

-- the call isn't an arrive with this stay
abbrev pub IsNoArrive : ℕ → DeskCall → Type 0
IsNoArrive n (Stay owner stay change.Arrive) = stay ≢ n
IsNoArrive n (Stay owner stay (change.Request tuple)) = Unit {0}
IsNoArrive n (Stay owner stay change.Depart) = Unit {0}
IsNoArrive n (Time moment signal) = Unit {0}

abbrev pub HasNoArrive : ℕ → List RecordedCall → Type 0
HasNoArrive n [] = Unit {0}
HasNoArrive n (a ∷ calls) = IsNoArrive n a.call × HasNoArrive n calls

pub no_arrive-append : (n : ℕ) (xs ys : List RecordedCall) → HasNoArrive n xs → HasNoArrive n ys → HasNoArrive n (xs ++ ys)
no_arrive-append n [] ys first rest = rest
no_arrive-append n (x ∷ xs) ys first rest = (first.0, no_arrive-append n xs ys first.1 rest)

pub no_arrive-is : (n owner : ℕ) (call : DeskCall) → IsNoArrive n call → IsArriveOf owner n call → ⊥
no_arrive-is n owner (Stay o stay change.Arrive) other is = other is.1.0
no_arrive-is n owner (Stay o stay (change.Request tuple)) other is = let e : change.Request tuple ≡ change.Arrive = is.1.1 in cc
no_arrive-is n owner (Stay o stay change.Depart) other is = let e : change.Depart ≡ change.Arrive = is.1.1 in cc
no_arrive-is n owner (Time moment signal) other is = is

-- who isn't present with the stay doesn't become so
stays_away : (gap ms : ℕ) (base : Base) (calls : List RecordedCall) (owner n : ℕ) → 1 ≤ n
    → IsLegalHistory gap ms base (map recorded_entry calls) → HasNoArrive n calls → stay_in base.present.items owner ≢ n
    → stay_in (base_after ms base (map recorded_entry calls)).present.items owner ≢ n
stays_away gap ms base [] owner n some legal none away = away
stays_away gap ms base (a ∷ calls) owner n some legal none away =
    let e : Entry = recorded_entry a in
    stays_away gap ms (base_with ms base e) calls owner n some (legal-rest gap ms base e (map recorded_entry calls) legal) none.1
    (λ is. elim (
    stay_back ms (moment_after base.greatest e.call) owner (known_in base.present.items owner)
    (known_in (base_with ms base e).present.items owner) (is_done e.answer) e.call n some is
    (first_step gap ms owner base e (map recorded_entry calls) legal)
    ) [
      | inl h ↦ absurd (no_arrive-is n owner e.call none.0 h.1)
      | inr h ↦ absurd (away h.0)
    ])

pub desk_stays_away : (old new : DeskState) (calls : List RecordedCall) (owner n : ℕ) → 1 ≤ n → HasRecorded old calls new
    → HasNoArrive n calls → HasLeft owner n old → HasLeft owner n new
desk_stays_away old new calls owner n some r none away =
    let entries : List Entry = map recorded_entry calls in
    let legal : IsLegalHistory old.gap old.request_ms (now_of old) entries =
    legal-folded old.gap old.request_ms old.base old.history entries r.legal in
    subst (λ (b : Base). stay_in b.present.items owner ≢ n)
    (sym (now_after old calls new r ∙ base_after-append old.request_ms old.base old.history entries))
    (stays_away old.gap old.request_ms (now_of old) calls owner n some legal none away)

-- ---- a desk at which the depart was made

IsBase-after : (gap ms : ℕ) (base : Base) (entries : List Entry) → IsBase base → All (λ (e : Entry). HasStay e.call) entries
    → IsLegalHistory gap ms base entries → IsBase (base_after ms base entries)
IsBase-after gap ms base [] is all legal = is
IsBase-after gap ms base (e ∷ entries) is all legal =
    IsBase-after gap ms (base_with ms base e) entries
    (IsBase-with ms base e is (answer_follows gap ms base e (all 0 e (omega arith)) (legal-first gap ms base e entries legal)))
    (λ k d low. all (suc k) d (omega (arith, low))) (legal-rest gap ms base e entries legal)

named_else : (present : List Present) (owner n : ℕ) (r : Answer) → unless_present_with present owner n ≡ Some r → stay_in present owner ≢ n
named_else present owner n r refused is = absurd (grind (arith, nat_tests, refused, is))

-- whoever departs is away, done or refused
away_with : (ms : ℕ) (base : Base) (o : Ssrc) (n : ℕ) → 1 ≤ n → stay_in (present_with ms base (Stay o n change.Depart)) o.0 ≢ n
away_with ms base o n some = step (unless_present_with base.present.items o.0 n) refl
  where
    step : (x : Option Answer) → unless_present_with base.present.items o.0 n ≡ x
        → stay_in (present_unless ms base (Stay o n change.Depart) x) o.0 ≢ n
    step None e is =
        absurd (omega (
          arith,
          some,
          is,
          ap (λ (p : Option Present). option_map_or (λ (q : Present). q.stay) p 0) (presence_of-without base.present.items o.0),
        ))
    step (Some r) e is = named_else base.present.items o.0 n r e is

-- a depart that isn't recorded for want of room would have been refused
pub away_over : (d : DeskState) (o : Ssrc) (n : ℕ) → 1 ≤ n → HoldsLegalDesk d → IsOverLimit d (Stay o n change.Depart) → HasLeft o.0 n d
away_over d o n some legal over = step (unless_present_with (now_of d).present.items o.0 n) refl over
  where
    whole : IsBase (now_of d)
    whole = IsBase-after d.gap d.request_ms d.base d.history legal.base legal.stays legal.legal

    step : (x : Option Answer) → unless_present_with (now_of d).present.items o.0 n ≡ x
        → CALL_LIMIT < call_count d + 1 + length (present_unless d.request_ms (now_of d) (Stay o n change.Depart) x) → HasLeft o.0 n d
    step None e more =
        absurd (omega (
          arith,
          more,
          legal.within,
          length-without (now_of d).present.items o.0 whole.rising (present-named (now_of d).present.items o.0 n some e),
        ))
    step (Some r) e more = named_else (now_of d).present.items o.0 n r e

pub away_recorded : (p : ℕ) (d : DeskState) (o : Ssrc) (n : ℕ) (a : RecordedCall) (new : DeskState) → 1 ≤ n
    → IsRecordedCall p d (Stay o n change.Depart) a → HasRecorded d (a ∷ []) new → HasLeft o.0 n new
away_recorded p d o n a new some r h =
    let owed = answer-owed d (Stay o n change.Depart) a p r in
    subst (λ (b : Base). stay_in b.present.items o.0 ≢ n)
    (sym (now_after d (a ∷ []) new h ∙ base_after-append d.request_ms d.base d.history (recorded_entry a ∷ [])))
    (subst (λ (ps : List Present). stay_in ps o.0 ≢ n) (sym (present-answered d.gap d.request_ms (now_of d) (recorded_entry a) owed))
    (subst (λ (c : DeskCall). stay_in (present_with d.request_ms (now_of d) c) o.0 ≢ n) (sym r.names)
    (away_with d.request_ms (now_of d) o n some)))
