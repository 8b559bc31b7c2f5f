-- What is known of one owner, entry by entry, and where it is present.
use Rattle.std.proofs.Common.{◌≡◌, ℕ, zero, suc, ◌+◌, ◌≤◌, Bool, true, false, cond, map, List, [], ◌∷◌, refl, sym, ap, subst, ◌∙◌, arith, Option, Some, None, inl, inr}
use Rattle.std.specs.Prelude.{◌==◌, ◌⊎◌, ◌↔◌, option_map}
use Rattle.std.specs.Option.{option_map_or}
use Rattle.std.proofs.lemmas.Bool.{cases_eq, both_ways}
use Rattle.std.proofs.lemmas.Bool.Decides.{nat_tests}
use Rattle.std.proofs.lemmas.Option.{none-some, same_Some}
use Rattle.tmmbr_tuple.specs.declared.ssrc.Ssrc.{Ssrc}
use Rattle.tmmbr_tuple.specs.declared.tuple.Tuple.{Tuple}
use Rattle.desk.specs.declared.call.Call.{Call}
use Rattle.desk.specs.declared.call.Call.TheVariants.{Stay, Time}
use Rattle.desk.specs.declared.call.Change.{Change}
use Rattle.desk.specs.declared.call.Change.TheVariants.{Arrive, Request as Ask, Depart}
use Rattle.desk.specs.declared.call.Signal.TheVariants.{Pli, Tick, Expire}
use Rattle.desk.specs.declared.call.Entry.{Entry}
use Rattle.desk.specs.declared.presence.Asked.{Asked}
use Rattle.desk.specs.declared.presence.Present.{Present}
use Rattle.desk.specs.declared.base.Base.{Base}
use Rattle.desk.specs.Call.{moment_after, is_done}
use Rattle.desk.specs.Presence.{presence_of, stay_in, asked_in, with_presence, without_owner, without_old, unless_old, is_old, present_changed, present_by, refusal_in, refusal_of, unless_absent_with_room}
use Rattle.desk.specs.Trace.{base_with, base_after, present_behind}
use Rattle.desk.specs.History.{IsLegalHistory}
use Rattle.desk.specs.Places.{HasEntryAt, WasDone, IsArriveOf, IsRequestOf, IsDepartOf, IsExpire, IsPresentFrom, IsPresent}
use Rattle.desk.proofs.PresenceLemmas.{presence_of-with, presence_of-with_other, presence_of-without, presence_of-without_other, stay_in-named}
use Rattle.desk.proofs.TraceLemmas.{done_accepted, legal-first, legal-rest}
use Rattle.desk.proofs.PlaceLemmas.{not_in_nil, at_head, head_is, at_tail, from_tail, none_later, none_cons, none_tail, none_rest}

-- ---- what kinds of calls exclude each other

arrive_not_depart : (owner stay : ℕ) (call : Call) → IsArriveOf owner stay call → IsDepartOf owner call → ⊥
arrive_not_depart owner stay (Stay o s change) a b =
    let x : change ≡ Arrive = a.1.1 in
    let y : change ≡ Depart = b.1 in
    cc
arrive_not_depart owner stay (Time moment signal) a b = a

request_not_depart : (owner : ℕ) (t : Tuple) (call : Call) → IsRequestOf owner t call → IsDepartOf owner call → ⊥
request_not_depart owner t (Stay o s change) a b =
    let x : change ≡ Ask t = a.1 in
    let y : change ≡ Depart = b.1 in
    cc
request_not_depart owner t (Time moment signal) a b = a

arrive_not_request : (owner stay : ℕ) (t : Tuple) (call : Call) → IsArriveOf owner stay call → IsRequestOf owner t call → ⊥
arrive_not_request owner stay t (Stay o s change) a b =
    let x : change ≡ Arrive = a.1.1 in
    let y : change ≡ Ask t = b.1 in
    cc
arrive_not_request owner stay t (Time moment signal) a b = a

arrive_not_expire : (owner stay : ℕ) (call : Call) → IsArriveOf owner stay call → IsExpire call → ⊥
arrive_not_expire owner stay (Stay o s change) a b = b
arrive_not_expire owner stay (Time moment signal) a b = a

request_not_expire : (owner : ℕ) (t : Tuple) (call : Call) → IsRequestOf owner t call → IsExpire call → ⊥
request_not_expire owner t (Stay o s change) a b = b
request_not_expire owner t (Time moment signal) a b = a

depart_not_expire : (owner : ℕ) (call : Call) → IsDepartOf owner call → IsExpire call → ⊥
depart_not_expire owner (Stay o s change) a b = b
depart_not_expire owner (Time moment signal) a b = a

same_stay : (owner s t : ℕ) (call : Call) → IsArriveOf owner s call → IsArriveOf owner t call → s ≡ t
same_stay owner s t (Stay o stay change) a b = sym a.1.0 ∙ b.1.0
same_stay owner s t (Time moment signal) a b = absurd a

same_tuple : (owner : ℕ) (t u : Tuple) (call : Call) → IsRequestOf owner t call → IsRequestOf owner u call → t ≡ u
same_tuple owner t u (Stay o s change) a b =
    let x : change ≡ Ask t = a.1 in
    let y : change ≡ Ask u = b.1 in
    cc
same_tuple owner t u (Time moment signal) a b = absurd a

-- ---- what is known of one owner

pub record Known : Type 0 where
  pub stay : ℕ
  pub asked : Option Asked

abbrev pub known_in : List Present → ℕ → Known
known_in present owner = record { stay = stay_in present owner; asked = asked_in present owner }

abbrev pub asked_as : Tuple → ℕ → Option Asked
asked_as t stamp = Some (record { tuple = t; stamp = stamp })

-- a call of this kind, which was done
abbrev pub Was : (Call → Type 0) → Bool → Call → Type 0
Was P done call = (done ≡ true) × P call

-- what a call that isn't refused makes of it
pub data Step (request_ms now owner : ℕ) (before after : Known) (done : Bool) (call : Call) : Type 0 where
  arrives : (stay : ℕ) → Was (IsArriveOf owner stay) done call → before.stay ≡ 0 → after.stay ≡ stay → after.asked ≡ None
      → Step request_ms now owner before after done call
  asks : (t : Tuple) → Was (IsRequestOf owner t) done call → after.stay ≡ before.stay → after.asked ≡ asked_as t now
      → Step request_ms now owner before after done call
  departs : Was (IsDepartOf owner) done call → after.stay ≡ 0 → Step request_ms now owner before after done call
  expires : Was IsExpire done call → after.stay ≡ before.stay → after.asked ≡ unless_old request_ms now before.asked
      → Step request_ms now owner before after done call
  rests : ((stay : ℕ) → ¬ Was (IsArriveOf owner stay) done call) → ((t : Tuple) → ¬ Was (IsRequestOf owner t) done call)
      → ¬ Was (IsDepartOf owner) done call → ¬ Was IsExpire done call → after.stay ≡ before.stay → after.asked ≡ before.asked
      → Step request_ms now owner before after done call

-- ---- every call takes such a step

abbrev its_stay : Option Present → ℕ
its_stay known = option_map_or (λ (p : Present). p.stay) known 0

abbrev its_asked : Option Present → Option Asked
its_asked known = option_map_or (λ (p : Present). p.asked) known None

presence_of-expired : (request_ms now owner : ℕ) (present : List Present)
    → presence_of (map (without_old request_ms now) present) owner ≡ option_map (without_old request_ms now) (presence_of present owner)
presence_of-expired request_ms now owner [] = refl
presence_of-expired request_ms now owner (p ∷ present) = step (p.owner.0 == owner) (presence_of-expired request_ms now owner present)
  where
    step : (b : Bool) → presence_of (map (without_old request_ms now) present) owner ≡ option_map (without_old request_ms now) (presence_of present owner)
        → cond b (Some (without_old request_ms now p)) (presence_of (map (without_old request_ms now) present) owner)
        ≡ option_map (without_old request_ms now) (cond b (Some p) (presence_of present owner))
    step true rest = refl
    step false rest = rest

stay-expired : (request_ms now : ℕ) (known : Option Present) → its_stay (option_map (without_old request_ms now) known) ≡ its_stay known
stay-expired request_ms now None = refl
stay-expired request_ms now (Some p) = refl

asked-expired : (request_ms now : ℕ) (known : Option Present)
    → its_asked (option_map (without_old request_ms now) known) ≡ unless_old request_ms now (its_asked known)
asked-expired request_ms now None = refl
asked-expired request_ms now (Some p) = refl

stay_in-absent : (present : List Present) (owner : ℕ) → unless_absent_with_room present owner ≡ None → stay_in present owner ≡ 0
stay_in-absent present owner accepted = grind (arith, nat_tests, accepted)

changed_own : (request_ms now owner : ℕ) (present : List Present) (o : Ssrc) (s : ℕ) (change : Change) (done : Bool) → o.0 ≡ owner → done ≡ true
    → refusal_in present o.0 s change ≡ None
    → Step request_ms now owner (known_in present owner) (known_in (present_changed now present o s change) owner) done (Stay o s change)
changed_own request_ms now owner present o s Arrive done same is_done accepted =
    let new : Present = record { owner = o; stay = s; asked = None } in
    let is : presence_of (with_presence present new) owner ≡ Some new =
    ap (presence_of (with_presence present new)) (sym same) ∙ presence_of-with present new in
    arrives s (is_done, (same, (refl, refl))) (ap (stay_in present) (sym same) ∙ stay_in-absent present o.0 accepted) (ap its_stay is) (ap its_asked is)
changed_own request_ms now owner present o s (Ask t) done same is_done accepted =
    let new : Present = record { owner = o; stay = s; asked = asked_as t now } in
    let is : presence_of (with_presence present new) owner ≡ Some new =
    ap (presence_of (with_presence present new)) (sym same) ∙ presence_of-with present new in
    let stays : stay_in present owner ≡ s = ap (stay_in present) (sym same) ∙ stay_in-named present o.0 s accepted in
    asks t (is_done, (same, refl)) (ap its_stay is ∙ sym stays) (ap its_asked is)
changed_own request_ms now owner present o s Depart done same is_done accepted =
    let is : presence_of (without_owner present o.0) owner ≡ None =
    ap (presence_of (without_owner present o.0)) (sym same) ∙ presence_of-without present o.0 in
    departs (is_done, (same, refl)) (ap its_stay is)

presence_of-changed_other : (now owner : ℕ) (present : List Present) (o : Ssrc) (s : ℕ) (change : Change) → (o.0 ≡ owner → ⊥)
    → presence_of (present_changed now present o s change) owner ≡ presence_of present owner
presence_of-changed_other now owner present o s Arrive differs =
    presence_of-with_other present (record { owner = o; stay = s; asked = None }) owner (λ e. differs (sym e))
presence_of-changed_other now owner present o s (Ask t) differs =
    presence_of-with_other present (record { owner = o; stay = s; asked = asked_as t now }) owner (λ e. differs (sym e))
presence_of-changed_other now owner present o s Depart differs = presence_of-without_other present o.0 owner (λ e. differs (sym e))

changed : (request_ms now owner : ℕ) (present : List Present) (call : Call) (done : Bool) → done ≡ true → refusal_of present call ≡ None
    → Step request_ms now owner (known_in present owner) (known_in (present_by request_ms now present call) owner) done call
changed request_ms now owner present (Stay o s change) done is_done accepted =
    elim (cases_eq o.0 owner) [
      | inl same ↦ changed_own request_ms now owner present o s change done same is_done accepted
      | inr differs ↦
          let is = presence_of-changed_other now owner present o s change differs in
          rests (λ stay h. differs h.1.0) (λ t h. differs h.1.0) (λ h. differs h.1.0) (λ h. h.1) (ap its_stay is) (ap its_asked is)
    ]
changed request_ms now owner present (Time moment Pli) done is_done accepted =
    rests (λ stay h. h.1) (λ t h. h.1) (λ h. h.1) (λ h. let no : Pli ≡ Expire = h.1 in cc) refl refl
changed request_ms now owner present (Time moment Tick) done is_done accepted =
    rests (λ stay h. h.1) (λ t h. h.1) (λ h. h.1) (λ h. let no : Tick ≡ Expire = h.1 in cc) refl refl
changed request_ms now owner present (Time moment Expire) done is_done accepted =
    let is = presence_of-expired request_ms now owner present in
    expires (is_done, refl) (ap its_stay is ∙ stay-expired request_ms now (presence_of present owner))
    (ap its_asked is ∙ asked-expired request_ms now (presence_of present owner))

pub step_at : (request_ms owner : ℕ) (base : Base) (e : Entry) → (is_done e.answer ≡ true → refusal_of base.present.items e.call ≡ None)
    → Step request_ms (moment_after base.greatest e.call) owner (known_in base.present.items owner)
    (known_in (base_with request_ms base e).present.items owner) (is_done e.answer) e.call
step_at request_ms owner base e accepted = by_answer (is_done e.answer) refl
  where
    by_answer : (b : Bool) → is_done e.answer ≡ b
        → Step request_ms (moment_after base.greatest e.call) owner (known_in base.present.items owner)
        (known_in (cond b (present_behind request_ms base e.call) base.present.items) owner) (is_done e.answer) e.call
    by_answer true done =
        changed request_ms (moment_after base.greatest e.call) owner base.present.items e.call (is_done e.answer) done (accepted done)
    by_answer false refused =
        rests (λ stay h. both_ways (is_done e.answer) refused h.0) (λ t h. both_ways (is_done e.answer) refused h.0)
        (λ h. both_ways (is_done e.answer) refused h.0) (λ h. both_ways (is_done e.answer) refused h.0) refl refl

-- ---- what a step says

module _ (request_ms now owner : ℕ) (before after : Known) (done : Bool) (call : Call) where
  pub stay_back : (stay : ℕ) → 1 ≤ stay → after.stay ≡ stay → Step request_ms now owner before after done call
      → Was (IsArriveOf owner stay) done call ⊎ ((before.stay ≡ stay) × ¬ Was (IsDepartOf owner) done call)
  stay_back stay least is (arrives s h absent stays quiet) = inl (h.0, subst (λ k. IsArriveOf owner k call) (sym stays ∙ is) h.1)
  stay_back stay least is (asks t h stays asked) = inr (sym stays ∙ is, λ gone. request_not_depart owner t call h.1 gone.1)
  stay_back stay least is (departs h gone) = absurd (omega (arith, least, is, gone))
  stay_back stay least is (expires h stays asked) = inr (sym stays ∙ is, λ gone. depart_not_expire owner call gone.1 h.1)
  stay_back stay least is (rests no_arrive no_request no_depart no_expire stays asked) = inr (sym stays ∙ is, no_depart)

  pub stay_on : (stay : ℕ) → 1 ≤ stay → before.stay ≡ stay → ¬ Was (IsDepartOf owner) done call → Step request_ms now owner before after done call
      → after.stay ≡ stay
  stay_on stay least is not_gone (arrives s h absent stays quiet) = absurd (omega (arith, least, is, absent))
  stay_on stay least is not_gone (asks t h stays asked) = stays ∙ is
  stay_on stay least is not_gone (departs h gone) = absurd (not_gone h)
  stay_on stay least is not_gone (expires h stays asked) = stays ∙ is
  stay_on stay least is not_gone (rests no_arrive no_request no_depart no_expire stays asked) = stays ∙ is

  pub arrived : (stay : ℕ) → Was (IsArriveOf owner stay) done call → Step request_ms now owner before after done call
      → (after.stay ≡ stay) × (after.asked ≡ None)
  arrived stay h (arrives s g absent stays quiet) = (stays ∙ same_stay owner s stay call g.1 h.1, quiet)
  arrived stay h (asks t g stays asked) = absurd (arrive_not_request owner stay t call h.1 g.1)
  arrived stay h (departs g gone) = absurd (arrive_not_depart owner stay call h.1 g.1)
  arrived stay h (expires g stays asked) = absurd (arrive_not_expire owner stay call h.1 g.1)
  arrived stay h (rests no_arrive no_request no_depart no_expire stays asked) = absurd (no_arrive stay h)

  pub requested : (t : Tuple) → Was (IsRequestOf owner t) done call → Step request_ms now owner before after done call → after.asked ≡ asked_as t now
  requested t h (arrives s g absent stays quiet) = absurd (arrive_not_request owner s t call g.1 h.1)
  requested t h (asks u g stays asked) = asked ∙ ap (λ x. asked_as x now) (same_tuple owner u t call g.1 h.1)
  requested t h (departs g gone) = absurd (request_not_depart owner t call h.1 g.1)
  requested t h (expires g stays asked) = absurd (request_not_expire owner t call h.1 g.1)
  requested t h (rests no_arrive no_request no_depart no_expire stays asked) = absurd (no_request t h)

  -- an expire that takes what was asked at this moment
  abbrev pub Takes : ℕ → Type 0
  Takes stamp = Was IsExpire done call × (1 ≤ request_ms) × (stamp + request_ms ≤ now)

  is_old-takes : (stamp : ℕ) → is_old request_ms now stamp ≡ true → (1 ≤ request_ms) × (stamp + request_ms ≤ now)
  is_old-takes stamp old = (grind (arith, nat_tests, old), grind (arith, nat_tests, old))

  takes-is_old : (stamp : ℕ) → 1 ≤ request_ms → stamp + request_ms ≤ now → is_old request_ms now stamp ≡ true
  takes-is_old stamp some old = grind (arith, nat_tests, some, old)

  young : (asked : Option Asked) (t : Tuple) (stamp : ℕ) → unless_old request_ms now asked ≡ asked_as t stamp
      → (asked ≡ asked_as t stamp) × (is_old request_ms now stamp ≡ false)
  young None t stamp is = absurd (none-some (record { tuple = t; stamp = stamp }) is)
  young (Some a) t stamp is = cases (is_old request_ms now a.stamp) refl is
    where
      cases : (b : Bool) → is_old request_ms now a.stamp ≡ b → cond b None (Some a) ≡ asked_as t stamp
          → (Some a ≡ asked_as t stamp) × (is_old request_ms now stamp ≡ false)
      cases true old same = absurd (none-some (record { tuple = t; stamp = stamp }) same)
      cases false not_old same =
          let stamps : a.stamp ≡ stamp = ap (λ (x : Asked). x.stamp) (same_Some a (record { tuple = t; stamp = stamp }) same) in
          (same, sym (ap (is_old request_ms now) stamps) ∙ not_old)

  abbrev pub KeptFrom : Tuple → ℕ → Type 0
  KeptFrom t stamp = (before.asked ≡ asked_as t stamp) × ((u : Tuple) → ¬ Was (IsRequestOf owner u) done call) × ¬ Takes stamp

  pub asked_back : (stay : ℕ) (t : Tuple) (stamp : ℕ) → 1 ≤ stay → before.stay ≡ stay → ¬ Was (IsDepartOf owner) done call → after.asked ≡ asked_as t stamp
      → Step request_ms now owner before after done call
      → (Was (IsRequestOf owner t) done call × (stamp ≡ now)) ⊎ KeptFrom t stamp
  asked_back stay t stamp least is not_gone has (arrives s h absent stays quiet) = absurd (omega (arith, least, is, absent))
  asked_back stay t stamp least is not_gone has (asks u h stays asked) =
      let same = same_Some (record { tuple = u; stamp = now }) (record { tuple = t; stamp = stamp }) (sym asked ∙ has) in
      inl ((h.0, subst (λ x. IsRequestOf owner x call) (ap (λ (x : Asked). x.tuple) same) h.1), sym (ap (λ (x : Asked). x.stamp) same))
  asked_back stay t stamp least is not_gone has (departs h gone) = absurd (not_gone h)
  asked_back stay t stamp least is not_gone has (expires h stays asked) =
      let was = young before.asked t stamp (sym asked ∙ has) in
      inr (
        was.0,
        λ u request. request_not_expire owner u call request.1 h.1,
        λ takes. both_ways (is_old request_ms now stamp) was.1 (takes-is_old stamp takes.1 takes.2),
      )
  asked_back stay t stamp least is not_gone has (rests no_arrive no_request no_depart no_expire stays asked) =
      inr (sym asked ∙ has, no_request, λ takes. no_expire takes.0)

  pub asked_on : (stay : ℕ) (t : Tuple) (stamp : ℕ) → 1 ≤ stay → before.stay ≡ stay → ¬ Was (IsDepartOf owner) done call → KeptFrom t stamp
      → Step request_ms now owner before after done call → after.asked ≡ asked_as t stamp
  asked_on stay t stamp least is not_gone kept (arrives s h absent stays quiet) = absurd (omega (arith, least, is, absent))
  asked_on stay t stamp least is not_gone kept (asks u h stays asked) = absurd (kept.1 u h)
  asked_on stay t stamp least is not_gone kept (departs h gone) = absurd (not_gone h)
  asked_on stay t stamp least is not_gone kept (expires h stays asked) =
      asked ∙ ap (unless_old request_ms now) kept.0 ∙ cases (is_old request_ms now stamp) refl
    where
      cases : (b : Bool) → is_old request_ms now stamp ≡ b → cond b None (asked_as t stamp) ≡ asked_as t stamp
      cases true old = let limits = is_old-takes stamp old in absurd (kept.2 (h, limits.0, limits.1))
      cases false not_old = refl
  asked_on stay t stamp least is not_gone kept (rests no_arrive no_request no_depart no_expire stays asked) = asked ∙ kept.0

-- ---- where an owner is present: the first entry goes into the base

abbrev pub less_one : ℕ → ℕ
less_one zero = zero
less_one (suc n) = n

module _ (request_ms : ℕ) (base : Base) (e : Entry) (entries : List Entry) (owner stay : ℕ) (least : 1 ≤ stay)
    (step : Step request_ms (moment_after base.greatest e.call) owner (known_in base.present.items owner)
    (known_in (base_with request_ms base e).present.items owner) (is_done e.answer) e.call) where
  abbrev shown : ℕ
  shown = moment_after base.greatest e.call

  abbrev was_known : Known
  was_known = known_in base.present.items owner

  abbrev is_known : Known
  is_known = known_in (base_with request_ms base e).present.items owner

  abbrev Departed : Entry → Type 0
  Departed = WasDone (IsDepartOf owner)

  abbrev Came : Entry → Type 0
  Came = WasDone (IsArriveOf owner stay)

  came_at : (from place : ℕ) → suc from ≡ place + 1 → HasEntryAt Came (e ∷ entries) place
      → ((from ≡ 0) × (is_known.stay ≡ stay)) ⊎ ((a : ℕ) × (from ≡ a + 1) × HasEntryAt Came entries a)
  came_at from zero eq s =
      inl (omega arith, (arrived request_ms shown owner was_known is_known (is_done e.answer) e.call stay (head_is Came e entries s) step).0)
  came_at from (suc place) eq s = inr (place, omega arith, from_tail Came e entries place s)

  pub present_on : (from : ℕ) → IsPresentFrom base (e ∷ entries) owner stay from → IsPresentFrom (base_with request_ms base e) entries owner stay (less_one from)
  present_on zero p = record { began = began p.began; stayed = none_rest Departed e entries p.stayed }
    where
      began : ((zero ≡ zero) × (was_known.stay ≡ stay)) ⊎ ((a : ℕ) × (zero ≡ a + 1) × HasEntryAt Came (e ∷ entries) a)
          → ((zero ≡ zero) × (is_known.stay ≡ stay)) ⊎ ((a : ℕ) × (zero ≡ a + 1) × HasEntryAt Came entries a)
      began (inl at) = inl (
        refl,
        stay_on request_ms shown owner was_known is_known (is_done e.answer) e.call stay least at.1
            (λ gone. p.stayed 0 (omega arith) (at_head Departed e entries gone)) step,
      )
      began (inr at) = absurd (omega (arith, at.1))
  present_on (suc from) p = record { began = began p.began; stayed = none_tail Departed e entries from p.stayed }
    where
      began : ((suc from ≡ 0) × (was_known.stay ≡ stay)) ⊎ ((a : ℕ) × (suc from ≡ a + 1) × HasEntryAt Came (e ∷ entries) a)
          → ((from ≡ 0) × (is_known.stay ≡ stay)) ⊎ ((a : ℕ) × (from ≡ a + 1) × HasEntryAt Came entries a)
      began (inl at) = absurd (omega (arith, at.0))
      began (inr at) = came_at from at.0 at.1 at.2

  pub present_back : (from : ℕ) → IsPresentFrom (base_with request_ms base e) entries owner stay from → IsPresent base (e ∷ entries) owner stay
  present_back from p = began p.began
    where
      here : from ≡ 0 → Came e ⊎ ((was_known.stay ≡ stay) × ¬ Departed e) → IsPresent base (e ∷ entries) owner stay
      here first (inl came) = (
        1,
        record {
          began = inr (0, refl, at_head Came e entries came);
          stayed = none_later Departed e entries 0 (λ place after s. p.stayed place (omega arith) s);
        },
      )
      here first (inr stays) = (
        0,
        record {
          began = inl (refl, stays.0);
          stayed = none_cons Departed e entries stays.1 (λ place after s. p.stayed place (omega arith) s);
        },
      )

      began : ((from ≡ 0) × (is_known.stay ≡ stay)) ⊎ ((a : ℕ) × (from ≡ a + 1) × HasEntryAt Came entries a) → IsPresent base (e ∷ entries) owner stay
      began (inl at) = here at.0 (stay_back request_ms shown owner was_known is_known (is_done e.answer) e.call stay least at.1 step)
      began (inr at) = (
        suc from,
        record {
          began = inr (suc at.0, omega (arith, at.1), at_tail Came e entries at.0 at.2);
          stayed = none_later Departed e entries from p.stayed;
        },
      )

-- the step that the first entry of a legal history takes
pub first_step : (gap request_ms owner : ℕ) (base : Base) (e : Entry) (entries : List Entry) → IsLegalHistory gap request_ms base (e ∷ entries)
    → Step request_ms (moment_after base.greatest e.call) owner (known_in base.present.items owner)
    (known_in (base_with request_ms base e).present.items owner) (is_done e.answer) e.call
first_step gap request_ms owner base e entries legal =
    step_at request_ms owner base e (done_accepted gap request_ms base e.call e.answer (legal-first gap request_ms base e entries legal))

pub present_none : (base : Base) (owner stay from : ℕ) → IsPresentFrom base [] owner stay from → (from ≡ 0) × (stay_in base.present.items owner ≡ stay)
present_none base owner stay from p =
    elim p.began [ inl at ↦ at | inr at ↦ absurd (not_in_nil (WasDone (IsArriveOf owner stay)) at.0 at.2) ]

pub present_law : (gap request_ms : ℕ) (base : Base) (entries : List Entry) (owner stay : ℕ) → IsLegalHistory gap request_ms base entries → 1 ≤ stay
    → stay_in (base_after request_ms base entries).present.items owner ≡ stay ↔ IsPresent base entries owner stay
present_law gap request_ms base [] owner stay legal least = (
  λ is. (0, record { began = inl (refl, is); stayed = λ later from s. not_in_nil (WasDone (IsDepartOf owner)) later s }),
  λ p. (present_none base owner stay p.0 p.1).1,
)
present_law gap request_ms base (e ∷ entries) owner stay legal least =
    let step = first_step gap request_ms owner base e entries legal in
    let rest =
    present_law gap request_ms (base_with request_ms base e) entries owner stay (legal-rest gap request_ms base e entries legal) least in (
      λ is. let p = rest.0 is in present_back request_ms base e entries owner stay least step p.0 p.1,
      λ p. rest.1 (less_one p.0, present_on request_ms base e entries owner stay least step p.0 p.1),
    )
