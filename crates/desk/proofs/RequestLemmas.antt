-- The live request of an owner is the last one since it arrived that no expire took.
use Rattle.std.proofs.Common.{◌≡◌, ℕ, zero, suc, ◌+◌, ◌<◌, ◌≤◌, List, [], ◌∷◌, refl, sym, ap, subst, ◌∙◌, arith, Option, Some, None, inl, inr}
use Rattle.std.specs.Prelude.{◌↔◌, All}
use Rattle.std.specs.Option.{option_map_or}
use Rattle.std.proofs.lemmas.Option.{none-some, same_Some}
use Rattle.std.proofs.lemmas.List.Elements.{All-head, All-tail}
use Rattle.tmmbr_tuple.specs.declared.tuple.Tuple.{Tuple}
use Rattle.bounding_set.specs.Rows.{tuple_of}
use Rattle.desk.specs.declared.call.Entry.{Entry}
use Rattle.desk.specs.declared.presence.Asked.{Asked}
use Rattle.desk.specs.declared.presence.Present.{Present}
use Rattle.desk.specs.declared.base.Base.{Base}
use Rattle.desk.specs.Call.{HasStay, moment_after, is_done}
use Rattle.desk.specs.Presence.{presence_of, stay_in, asked_in}
use Rattle.desk.specs.Trace.{IsBase, base_with, base_after, live_after}
use Rattle.desk.specs.History.{IsLegalHistory}
use Rattle.desk.specs.Places.{HasEntryAt, WasDone, IsArriveOf, IsRequestOf, IsDepartOf, IsExpire, IsPresentFrom, greatest_until, TakesAt, IsLastRequestFrom, IsRequestOfBase, IsLiveFrom}
use Rattle.desk.proofs.PresenceLemmas.{absent_without_stay}
use Rattle.desk.proofs.LiveLemmas.{tuple_in, asked_by, tuple_of-live}
use Rattle.desk.proofs.TraceLemmas.{IsBase-with, answer_follows, legal-first, legal-rest}
use Rattle.desk.proofs.PlaceLemmas.{not_in_nil, at_head, head_is, at_tail, from_tail, none_cons, greatest-tail}
use Rattle.desk.proofs.SinceLemmas.{Known, known_in, asked_as, Step, arrived, requested, asked_back, asked_on, KeptFrom, less_one, present_on, present_none, first_step}

-- ---- one place less

less_one-zero : (n : ℕ) → n ≤ 0 → less_one n ≡ 0
less_one-zero zero none = refl
less_one-zero (suc n) none = absurd (omega arith)

less_one-on : (n a : ℕ) → n ≤ suc a → less_one n ≤ a
less_one-on zero a below = omega arith
less_one-on (suc n) a below = omega arith

less_one-back : (n a : ℕ) → less_one n ≤ a → n ≤ suc a
less_one-back zero a below = omega arith
less_one-back (suc n) a below = omega (arith, below)

-- ---- what is asked for: the first entry goes into the base

module _ (request_ms : ℕ) (base : Base) (e : Entry) (entries : List Entry) (owner stay : ℕ) (t : Tuple) (least : 1 ≤ stay)
    (step : Step request_ms (moment_after base.greatest e.call) owner (known_in base.present.items owner)
    (known_in (base_with request_ms base e).present.items owner) (is_done e.answer) e.call) where
  abbrev shown : ℕ
  shown = moment_after base.greatest e.call

  abbrev was_known : Known
  was_known = known_in base.present.items owner

  abbrev is_known : Known
  is_known = known_in (base_with request_ms base e).present.items owner

  abbrev behind : Base
  behind = base_with request_ms base e

  abbrev Departed : Entry → Type 0
  Departed = WasDone (IsDepartOf owner)

  abbrev Asked_for : Tuple → Entry → Type 0
  Asked_for u = WasDone (IsRequestOf owner u)

  abbrev Came : Entry → Type 0
  Came = WasDone (IsArriveOf owner stay)

  abbrev Expired : Entry → Type 0
  Expired = WasDone IsExpire

  takes_on : (stamp place : ℕ) → TakesAt request_ms base (e ∷ entries) stamp (suc place) → TakesAt request_ms behind entries stamp place
  takes_on stamp place takes = record {
    expire = from_tail Expired e entries place takes.expire;
    some_limit = takes.some_limit;
    old = subst (λ m. stamp + request_ms ≤ m) (greatest-tail request_ms base e entries place) takes.old;
  }

  takes_back : (stamp place : ℕ) → TakesAt request_ms behind entries stamp place → TakesAt request_ms base (e ∷ entries) stamp (suc place)
  takes_back stamp place takes = record {
    expire = at_tail Expired e entries place takes.expire;
    some_limit = takes.some_limit;
    old = subst (λ m. stamp + request_ms ≤ m) (sym (greatest-tail request_ms base e entries place)) takes.old;
  }

  last_on : (from asked : ℕ) → from ≤ asked → HasEntryAt (Asked_for t) (e ∷ entries) asked
      → ((later : ℕ) (other : Tuple) → asked < later → ¬ HasEntryAt (Asked_for other) (e ∷ entries) later)
      → ((later : ℕ) → asked < later → ¬ TakesAt request_ms base (e ∷ entries) (greatest_until base (e ∷ entries) asked) later)
      → IsLiveFrom request_ms behind entries owner (less_one from) t
  last_on from zero counts request last untaken = inr (
    less_one-zero from counts,
    record {
      stamp = shown;
      there = requested request_ms shown owner was_known is_known (is_done e.answer) e.call t (head_is (Asked_for t) e entries request) step;
      last = λ later other s. last (suc later) other (omega arith) (at_tail (Asked_for other) e entries later s);
      untaken = λ later takes. untaken (suc later) (omega arith) (takes_back shown later takes);
    },
  )
  last_on from (suc asked) counts request last untaken = inl (record {
    asked = asked;
    counts = less_one-on from asked counts;
    request = from_tail (Asked_for t) e entries asked request;
    last = λ later other after s. last (suc later) other (omega arith) (at_tail (Asked_for other) e entries later s);
    untaken = λ later after takes.
        untaken (suc later) (omega arith)
        (takes_back (greatest_until base (e ∷ entries) (suc asked)) later
        (subst (λ m. TakesAt request_ms behind entries m later) (sym (greatest-tail request_ms base e entries asked)) takes));
  })

  since_base : (from : ℕ) → from ≡ 0 → IsPresentFrom base (e ∷ entries) owner stay from → was_known.stay ≡ stay
  since_base from none p = elim p.began [ inl at ↦ at.1 | inr at ↦ absurd (omega (arith, none, at.1)) ]

  no_depart : (from : ℕ) → from ≡ 0 → IsPresentFrom base (e ∷ entries) owner stay from → ¬ Departed e
  no_depart from none p gone = p.stayed 0 (omega (arith, none)) (at_head Departed e entries gone)

  base_on : (from : ℕ) → IsPresentFrom base (e ∷ entries) owner stay from → from ≡ 0 → IsRequestOfBase request_ms base (e ∷ entries) owner t
      → IsLiveFrom request_ms behind entries owner (less_one from) t
  base_on from p none r =
      let kept : KeptFrom request_ms shown owner was_known is_known (is_done e.answer) e.call t r.stamp = (
        r.there,
        λ u h. r.last 0 u (at_head (Asked_for u) e entries h),
        λ h. r.untaken 0 (record { expire = at_head Expired e entries h.0; some_limit = h.1; old = h.2 }),
      ) in
      inr (
        less_one-zero from (omega (arith, none)),
        record {
          stamp = r.stamp;
          there =
              asked_on request_ms shown owner was_known is_known (is_done e.answer) e.call stay t r.stamp least (since_base from none p)
              (no_depart from none p) kept step;
          last = λ later other s. r.last (suc later) other (at_tail (Asked_for other) e entries later s);
          untaken = λ later takes. r.untaken (suc later) (takes_back r.stamp later takes);
        },
      )

  pub live_on : (from : ℕ) → IsPresentFrom base (e ∷ entries) owner stay from → IsLiveFrom request_ms base (e ∷ entries) owner from t
      → IsLiveFrom request_ms behind entries owner (less_one from) t
  live_on from p (inl l) = last_on from l.asked l.counts l.request l.last l.untaken
  live_on from p (inr r) = base_on from p r.0 r.1

  last_back : (from : ℕ) → IsLastRequestFrom request_ms behind entries owner (less_one from) t
      → IsLastRequestFrom request_ms base (e ∷ entries) owner from t
  last_back from l = record {
    asked = suc l.asked;
    counts = less_one-back from l.asked l.counts;
    request = at_tail (Asked_for t) e entries l.asked l.request;
    last = last;
    untaken = untaken;
  }
    where
      last : (later : ℕ) (other : Tuple) → suc l.asked < later → ¬ HasEntryAt (Asked_for other) (e ∷ entries) later
      last zero other after s = absurd (omega arith)
      last (suc later) other after s = l.last later other (omega arith) (from_tail (Asked_for other) e entries later s)

      untaken : (later : ℕ) → suc l.asked < later
          → ¬ TakesAt request_ms base (e ∷ entries) (greatest_until base (e ∷ entries) (suc l.asked)) later
      untaken zero after takes = absurd (omega arith)
      untaken (suc later) after takes =
          l.untaken later (omega arith)
          (subst (λ m. TakesAt request_ms behind entries m later) (greatest-tail request_ms base e entries l.asked)
          (takes_on (greatest_until base (e ∷ entries) (suc l.asked)) later takes))

  -- the request is the first entry
  first_asked : IsRequestOfBase request_ms behind entries owner t → Asked_for t e → (stamp : ℕ)
      → ((later : ℕ) → ¬ TakesAt request_ms behind entries stamp later) → stamp ≡ shown → IsLastRequestFrom request_ms base (e ∷ entries) owner 0 t
  first_asked r asks stamp spared is = record {
    asked = 0;
    counts = omega arith;
    request = at_head (Asked_for t) e entries asks;
    last = last;
    untaken = untaken;
  }
    where
      last : (later : ℕ) (other : Tuple) → 0 < later → ¬ HasEntryAt (Asked_for other) (e ∷ entries) later
      last zero other after s = absurd (omega arith)
      last (suc later) other after s = r.last later other (from_tail (Asked_for other) e entries later s)

      untaken : (later : ℕ) → 0 < later → ¬ TakesAt request_ms base (e ∷ entries) (greatest_until base (e ∷ entries) 0) later
      untaken zero after takes = absurd (omega arith)
      untaken (suc later) after takes =
          spared later (subst (λ m. TakesAt request_ms behind entries m later) (sym is) (takes_on shown later takes))

  -- the request is one of the base
  still_asked : (r : IsRequestOfBase request_ms behind entries owner t)
      → KeptFrom request_ms shown owner was_known is_known (is_done e.answer) e.call t r.stamp → IsRequestOfBase request_ms base (e ∷ entries) owner t
  still_asked r kept = record {
    stamp = r.stamp;
    there = kept.0;
    last = λ later other. none_cons (Asked_for other) e entries (kept.1 other) (λ place after s. r.last place other s) later (omega arith);
    untaken = untaken;
  }
    where
      untaken : (later : ℕ) → ¬ TakesAt request_ms base (e ∷ entries) r.stamp later
      untaken zero takes = kept.2 (head_is Expired e entries takes.expire, takes.some_limit, takes.old)
      untaken (suc later) takes = r.untaken later (takes_on r.stamp later takes)

  base_back : (from : ℕ) → IsPresentFrom base (e ∷ entries) owner stay from → less_one from ≡ 0 → IsRequestOfBase request_ms behind entries owner t
      → IsLiveFrom request_ms base (e ∷ entries) owner from t
  base_back zero p none r =
      elim (asked_back request_ms shown owner was_known is_known (is_done e.answer) e.call stay t r.stamp least (since_base 0 refl p)
      (no_depart 0 refl p) r.there step) [
        | inl asks ↦ inl (first_asked r asks.0 r.stamp r.untaken asks.1)
        | inr kept ↦ inr (refl, still_asked r kept)
      ]
  base_back (suc from) p none r =
      elim p.began [
        | inl at ↦ absurd (omega (arith, at.0))
        | inr at ↦
            let first : at.0 ≡ 0 = omega (arith, none, at.1) in
            let came : Came e = head_is Came e entries (subst (λ place. HasEntryAt Came (e ∷ entries) place) first at.2) in
            let quiet = arrived request_ms shown owner was_known is_known (is_done e.answer) e.call stay came step in
            absurd (none-some (record { tuple = t; stamp = r.stamp }) (sym quiet.1 ∙ r.there))
      ]

  pub live_back : (from : ℕ) → IsPresentFrom base (e ∷ entries) owner stay from → IsLiveFrom request_ms behind entries owner (less_one from) t
      → IsLiveFrom request_ms base (e ∷ entries) owner from t
  live_back from p (inl l) = inl (last_back from l)
  live_back from p (inr r) = base_back from p r.0 r.1

-- ---- every list of entries

live_none : (request_ms : ℕ) (base : Base) (owner from : ℕ) (t : Tuple) → from ≡ 0
    → tuple_in (asked_in base.present.items owner) ≡ Some t ↔ IsLiveFrom request_ms base [] owner from t
live_none request_ms base owner from t first = (λ is. found (asked_in base.present.items owner) refl is, back)
  where
    found : (asked : Option Asked) → asked_in base.present.items owner ≡ asked → tuple_in asked ≡ Some t
        → IsLiveFrom request_ms base [] owner from t
    found None is asks = absurd (none-some t asks)
    found (Some a) is asks = inr (
      first,
      record {
        stamp = a.stamp;
        there = is ∙ ap (λ u. asked_as u a.stamp) (same_Some a.tuple t asks);
        last = λ later other s. not_in_nil (WasDone (IsRequestOf owner other)) later s;
        untaken = λ later takes. not_in_nil (WasDone IsExpire) later takes.expire;
      },
    )

    back : IsLiveFrom request_ms base [] owner from t → tuple_in (asked_in base.present.items owner) ≡ Some t
    back (inl l) = absurd (not_in_nil (WasDone (IsRequestOf owner t)) l.asked l.request)
    back (inr r) = ap tuple_in r.1.there

asked_law : (gap request_ms : ℕ) (base : Base) (entries : List Entry) (owner stay from : ℕ) (t : Tuple) → IsLegalHistory gap request_ms base entries
    → 1 ≤ stay → IsPresentFrom base entries owner stay from
    → tuple_in (asked_in (base_after request_ms base entries).present.items owner) ≡ Some t ↔ IsLiveFrom request_ms base entries owner from t
asked_law gap request_ms base [] owner stay from t legal least p = live_none request_ms base owner from t (present_none base owner stay from p).0
asked_law gap request_ms base (e ∷ entries) owner stay from t legal least p =
    let step = first_step gap request_ms owner base e entries legal in
    let rest =
    asked_law gap request_ms (base_with request_ms base e) entries owner stay (less_one from) t
    (legal-rest gap request_ms base e entries legal) least (present_on request_ms base e entries owner stay least step from p) in (
      λ asks. live_back request_ms base e entries owner stay t least step from p (rest.0 asks),
      λ live. rest.1 (live_on request_ms base e entries owner stay t least step from p live),
    )

IsBase-after : (gap request_ms : ℕ) (base : Base) (entries : List Entry) → IsBase base → All (λ (e : Entry). HasStay e.call) entries
    → IsLegalHistory gap request_ms base entries → IsBase (base_after request_ms base entries)
IsBase-after gap request_ms base [] is all legal = is
IsBase-after gap request_ms base (e ∷ entries) is all legal =
    let stays : HasStay e.call = All-head (λ (x : Entry). HasStay x.call) e entries all in
    let follows = answer_follows gap request_ms base e stays (legal-first gap request_ms base e entries legal) in
    IsBase-after gap request_ms (base_with request_ms base e) entries (IsBase-with request_ms base e is follows)
    (All-tail (λ (x : Entry). HasStay x.call) e entries all) (legal-rest gap request_ms base e entries legal)

asked_by-in : (known : Option Present) → asked_by known ≡ tuple_in (option_map_or (λ (p : Present). p.asked) known None)
asked_by-in None = refl
asked_by-in (Some p) = refl

-- ---- the laws

pub request_law : (gap request_ms : ℕ) (base : Base) (entries : List Entry) (owner stay from : ℕ) (t : Tuple) → IsBase base
    → All (λ (e : Entry). HasStay e.call) entries → IsLegalHistory gap request_ms base entries → 1 ≤ stay
    → IsPresentFrom base entries owner stay from
    → tuple_of (live_after request_ms base entries) owner ≡ Some t ↔ IsLiveFrom request_ms base entries owner from t
request_law gap request_ms base entries owner stay from t is all legal least p =
    let present = (base_after request_ms base entries).present.items in
    let same : tuple_of (live_after request_ms base entries) owner ≡ tuple_in (asked_in present owner) =
    tuple_of-live present owner (IsBase-after gap request_ms base entries is all legal).rising ∙ asked_by-in (presence_of present owner) in
    let law = asked_law gap request_ms base entries owner stay from t legal least p in (
      λ asks. law.0 (sym same ∙ asks),
      λ live. same ∙ law.1 live,
    )

pub absent_law : (gap request_ms : ℕ) (base : Base) (entries : List Entry) (owner : ℕ) → IsBase base
    → All (λ (e : Entry). HasStay e.call) entries → IsLegalHistory gap request_ms base entries
    → stay_in (base_after request_ms base entries).present.items owner ≡ 0 → tuple_of (live_after request_ms base entries) owner ≡ None
absent_law gap request_ms base entries owner is all legal absent =
    let present = (base_after request_ms base entries).present.items in
    let whole : IsBase (base_after request_ms base entries) = IsBase-after gap request_ms base entries is all legal in
    tuple_of-live present owner whole.rising ∙ ap asked_by (absent_without_stay present owner whole.stays absent)
