-- Who is present, by rising owner: what a search finds, and what an edit does.
use Rattle.std.proofs.Common.{◌≡◌, ℕ, zero, suc, ◌+◌, ◌<◌, ◌≤◌, ◌≢◌, Bool, true, false, cond, Option, map, List, [], ◌∷◌, length, get_or, set, take, drop, ◌++◌, Some, None, refl, sym, ap, inl, inr, subst, ◌∙◌, arith}
use Rattle.std.specs.List.{refill}
use Rattle.std.specs.Option.{option_map_or}
use Rattle.std.proofs.Math.Seq.{take-append_seam}
use Rattle.std.proofs.lemmas.Bool.{cases_lt, cases_eq}
use Rattle.std.proofs.lemmas.Bool.Decides.{nat_tests}
use Rattle.std.proofs.lemmas.List.{length-set, length-map}
use Rattle.std.proofs.lemmas.List.Kept.{AllPairs-cons}
use Rattle.std.proofs.lemmas.List.Elements.{All-cons, All-filter, All-map}
use Rattle.rate_cert.proofs.OwnerLemmas.{OwnersAbove, NoOwnerBefore, rising_tail, rising_head, above_tail, above_lesser, value_for-above, value_for-head, value_for-behind, value_for-place, value_for-gap, value_for-with, value_for-with_other, value_for-without, value_for-without_other, without-absent, all-with, rising-with, rising-without}
use Rattle.desk.specs.declared.presence.Asked.{Asked}
use Rattle.desk.specs.declared.presence.Present.{Present}
use Rattle.desk.specs.declared.presence.TheConstants.{PRESENT_LIMIT}
use Rattle.desk.specs.declared.call.Call.{Call}
use Rattle.desk.specs.declared.call.Call.TheVariants.{Stay, Time}
use Rattle.desk.specs.declared.call.Change.TheVariants.{Arrive, Request as Ask, Depart}
use Rattle.desk.specs.declared.call.Signal.TheVariants.{Pli, Tick, Expire}
use Rattle.desk.specs.Call.{HasStay}
use Rattle.desk.specs.Presence.{HasRisingOwners, HasStays, IsOwnerPlace, IsGapFor, presence_of, present_by, refusal_of, stay_in, with_presence, without_owner, without_old, unless_old, is_old, unless_absent_with_room, unless_present_with}
use Rattle.desk.specs.Standing.{count_by}

-- what of one present the lemmas on rows by owner ask for
abbrev pub present_owner : Present → ℕ
present_owner p = p.owner.0

-- those present have greater owners than this one
abbrev pub IsBelow : ℕ → List Present → Type 0
IsBelow owner present = OwnersAbove present_owner owner present

-- ---- what is known of an owner

pub presence_of-below : (present : List Present) (owner : ℕ) → IsBelow owner present → presence_of present owner ≡ None
presence_of-below present owner is = value_for-above present_owner (λ p. p) present owner is

pub presence_of-first : (p : Present) (present : List Present) (owner : ℕ) → p.owner.0 ≡ owner → presence_of (p ∷ present) owner ≡ Some p
presence_of-first p present owner same = value_for-head present_owner (λ q. q) p present owner same

pub presence_of-behind : (p : Present) (present : List Present) (owner : ℕ) → p.owner.0 ≢ owner
    → presence_of (p ∷ present) owner ≡ presence_of present owner
presence_of-behind p present owner differs = value_for-behind present_owner (λ q. q) p present owner differs

pub presence_of-place : (present : List Present) (owner place : ℕ) (d : Present) → HasRisingOwners present → IsOwnerPlace present owner place
    → presence_of present owner ≡ Some (get_or present place d)
presence_of-place present owner place d rising is = value_for-place present_owner (λ p. p) present owner place d rising is

pub presence_of-gap : (present : List Present) (owner place : ℕ) → IsGapFor present owner place → presence_of present owner ≡ None
presence_of-gap present owner place gap = value_for-gap present_owner (λ p. p) present owner place gap

-- ---- edits

-- what an `ArrayVec` has after a write through its slice
pub refill-set : (present slice : List Present) (place : ℕ) (new : Present) → slice ≡ present
    → refill (length present) present (set slice place new) ≡ set present place new
refill-set present slice place new is =
    let written = set present place new in
    ap (λ s. refill (length present) present (set s place new)) is
    ∙ ap (λ n. take n (written ++ drop (length written) present)) (sym (length-set present place new))
    ∙ take-append_seam written (drop (length written) present)

pub presence_of-with : (present : List Present) (new : Present) → presence_of (with_presence present new) new.owner.0 ≡ Some new
presence_of-with present new = value_for-with present_owner (λ p. p) present new

pub presence_of-with_other : (present : List Present) (new : Present) (other : ℕ) → other ≢ new.owner.0
    → presence_of (with_presence present new) other ≡ presence_of present other
presence_of-with_other present new other differs = value_for-with_other present_owner (λ p. p) present new other differs

pub presence_of-without : (present : List Present) (owner : ℕ) → presence_of (without_owner present owner) owner ≡ None
presence_of-without present owner = value_for-without present_owner (λ p. p) present owner

pub presence_of-without_other : (present : List Present) (owner other : ℕ) → other ≢ owner
    → presence_of (without_owner present owner) other ≡ presence_of present other
presence_of-without_other present owner other differs = value_for-without_other present_owner (λ p. p) present owner other differs

-- ---- stays

-- an owner whose stay isn't 0 is present
pub present_with_stay : (present : List Present) (owner : ℕ) → 1 ≤ stay_in present owner → presence_of present owner ≡ None → ⊥
present_with_stay present owner from none =
    let nothing : stay_in present owner ≡ 0 = ap (λ known. option_map_or (λ (p : Present). p.stay) known 0) none in
    omega (arith, nothing, from)

-- and if stays are numbered from 1, no other is
pub absent_without_stay : (present : List Present) (owner : ℕ) → HasStays present → stay_in present owner ≡ 0 → presence_of present owner ≡ None
absent_without_stay [] owner stays is = refl
absent_without_stay (p ∷ present) owner stays is =
    elim (cases_eq p.owner.0 owner) [
      | inl same ↦
          let its : stay_in (p ∷ present) owner ≡ p.stay = grind (arith, nat_tests, same) in
          absurd (omega (arith, stays zero p (omega arith), its, is))
      | inr differs ↦
          let its = presence_of-behind p present owner differs in
          let rest : stay_in present owner ≡ 0 = sym (ap (λ known. option_map_or (λ (p : Present). p.stay) known 0) its) ∙ is in
          its ∙ absent_without_stay present owner (λ k d below. stays (suc k) d (omega arith)) rest
    ]

-- ---- how many are present

pub length-with_absent : (present : List Present) (new : Present) → presence_of present new.owner.0 ≡ None
    → length (with_presence present new) ≡ length present + 1
length-with_absent [] new none = refl
length-with_absent (p ∷ present) new none =
    elim (cases_eq p.owner.0 new.owner.0) [
      | inl same ↦ grind (arith, nat_tests, same, none)
      | inr differs ↦
          let rest : presence_of present new.owner.0 ≡ None = grind (arith, nat_tests, differs, none) in
          grind (arith, nat_tests, differs, length-with_absent present new rest)
    ]

pub length-with_present : (present : List Present) (new : Present) → HasRisingOwners present → (presence_of present new.owner.0 ≡ None → ⊥)
    → length (with_presence present new) ≡ length present
length-with_present [] new rising is = absurd (is refl)
length-with_present (p ∷ present) new rising is =
    elim (cases_lt new.owner.0 p.owner.0) [
      | inl before ↦
          absurd (is (presence_of-below (p ∷ present) new.owner.0
          (All-cons (λ (q : Present). new.owner.0 < q.owner.0) p present before
          (above_lesser present_owner p.owner.0 new.owner.0 present before (rising_head present_owner p present rising)))))
      | inr from ↦
          elim (cases_eq p.owner.0 new.owner.0) [
            | inl same ↦ grind (arith, nat_tests, same)
            | inr differs ↦
                let its = presence_of-behind p present new.owner.0 differs in
                grind (arith, nat_tests, from, differs, length-with_present present new (rising_tail present_owner p present rising) (λ none. is (its ∙ none)))
          ]
    ]

pub length-without : (present : List Present) (owner : ℕ) → HasRisingOwners present → (presence_of present owner ≡ None → ⊥)
    → length (without_owner present owner) + 1 ≡ length present
length-without [] owner rising is = absurd (is refl)
length-without (p ∷ present) owner rising is =
    elim (cases_eq p.owner.0 owner) [
      | inl same ↦
          let none : NoOwnerBefore present_owner present owner (length present) = λ k d low within is.
          omega (arith, same, is, rising_head present_owner p present rising k d within) in
          grind (arith, nat_tests, same, ap length (without-absent present_owner present owner none))
      | inr differs ↦
          let its = presence_of-behind p present owner differs in
          grind (arith, nat_tests, differs, length-without present owner (rising_tail present_owner p present rising) (λ none. is (its ∙ none)))
    ]

-- ---- age

-- after so many places those present ask for nothing that is too old
abbrev pub aged : ℕ → ℕ → ℕ → List Present → List Present
aged request_ms now zero present = present
aged request_ms now (suc n) [] = []
aged request_ms now (suc n) (p ∷ present) = without_old request_ms now p ∷ aged request_ms now n present

pub aged-all : (request_ms now n : ℕ) (present : List Present) → length present ≤ n → aged request_ms now n present ≡ map (without_old request_ms now) present
aged-all request_ms now zero [] past = refl
aged-all request_ms now zero (p ∷ present) past = absurd (omega (arith, past))
aged-all request_ms now (suc n) [] past = refl
aged-all request_ms now (suc n) (p ∷ present) past = ap (λ ps. without_old request_ms now p ∷ ps) (aged-all request_ms now n present (omega (arith, past)))

-- the next one ages too
pub set-aged : (request_ms now n : ℕ) (present : List Present) (d : Present) → n < length present
    → set (aged request_ms now n present) n (without_old request_ms now (get_or present n d)) ≡ aged request_ms now (suc n) present
set-aged request_ms now n [] d below = absurd (omega (arith, below))
set-aged request_ms now zero (p ∷ present) d below = refl
set-aged request_ms now (suc n) (p ∷ present) d below =
    ap (λ ps. without_old request_ms now p ∷ ps) (set-aged request_ms now n present d (omega (arith, below)))

pub get_or-aged : (request_ms now n : ℕ) (present : List Present) (d : Present) → n < length present
    → get_or (aged request_ms now n present) n d ≡ get_or present n d
get_or-aged request_ms now n [] d below = absurd (omega (arith, below))
get_or-aged request_ms now zero (p ∷ present) d below = refl
get_or-aged request_ms now (suc n) (p ∷ present) d below = get_or-aged request_ms now n present d (omega (arith, below))

pub length-aged : (request_ms now n : ℕ) (present : List Present) → length (aged request_ms now n present) ≡ length present
length-aged request_ms now zero present = refl
length-aged request_ms now (suc n) [] = refl
length-aged request_ms now (suc n) (p ∷ present) = ap (λ k. suc k) (length-aged request_ms now n present)

below-aged : (request_ms now n owner : ℕ) (present : List Present) → IsBelow owner present → IsBelow owner (aged request_ms now n present)
below-aged request_ms now zero owner present below = below
below-aged request_ms now (suc n) owner [] below = λ k d within. absurd (omega arith)
below-aged request_ms now (suc n) owner (p ∷ present) below =
    All-cons (λ (q : Present). owner < q.owner.0) (without_old request_ms now p) (aged request_ms now n present) (below zero p (omega arith))
    (below-aged request_ms now n owner present (above_tail present_owner owner p present below))

pub rising-aged : (request_ms now n : ℕ) (present : List Present) → HasRisingOwners present → HasRisingOwners (aged request_ms now n present)
rising-aged request_ms now zero present rising = rising
rising-aged request_ms now (suc n) [] rising = λ i j d before within. absurd (omega arith)
rising-aged request_ms now (suc n) (p ∷ present) rising =
    AllPairs-cons (λ (x y : Present). x.owner.0 < y.owner.0) (without_old request_ms now p) (aged request_ms now n present)
    (below-aged request_ms now n p.owner.0 present (rising_head present_owner p present rising))
    (rising-aged request_ms now n present (rising_tail present_owner p present rising))

-- the next one that ages is known by its owner, and the others are as they were
pub presence_of-aged : (request_ms now n : ℕ) (present : List Present) (d : Present) → HasRisingOwners present → n < length present
    → presence_of (aged request_ms now (suc n) present) (get_or present n d).owner.0 ≡ Some (without_old request_ms now (get_or present n d))
presence_of-aged request_ms now n [] d rising below = absurd (omega (arith, below))
presence_of-aged request_ms now zero (p ∷ present) d rising below = grind (arith, nat_tests)
presence_of-aged request_ms now (suc n) (p ∷ present) d rising below =
    let less : p.owner.0 < (get_or present n d).owner.0 = rising_head present_owner p present rising n d (omega (arith, below)) in
    let rest = presence_of-aged request_ms now n present d (rising_tail present_owner p present rising) (omega (arith, below)) in
    grind (arith, nat_tests, less, rest)

pub presence_of-aged_other : (request_ms now n : ℕ) (present : List Present) (d : Present) (other : ℕ) → n < length present
    → other ≢ (get_or present n d).owner.0
    → presence_of (aged request_ms now (suc n) present) other ≡ presence_of (aged request_ms now n present) other
presence_of-aged_other request_ms now n [] d other below differs = absurd (omega (arith, below))
presence_of-aged_other request_ms now zero (p ∷ present) d other below differs = grind (arith, nat_tests, differs)
presence_of-aged_other request_ms now (suc n) (p ∷ present) d other below differs =
    let rest = presence_of-aged_other request_ms now n present d other (omega (arith, below)) differs in
    grind (arith, nat_tests, rest)

-- whether what one asks for is too old
abbrev pub is_aged : ℕ → ℕ → Present → Bool
is_aged request_ms now p = option_map_or (λ (a : Asked). is_old request_ms now a.stamp) p.asked false

pub without_old-young : (request_ms now : ℕ) (p : Present) → is_aged request_ms now p ≡ false → without_old request_ms now p ≡ p
without_old-young request_ms now p young =
    ap (λ asked. record { owner = p.owner; stay = p.stay; asked = asked }) (step p.asked young)
  where
    step : (asked : Option Asked) → option_map_or (λ (a : Asked). is_old request_ms now a.stamp) asked false ≡ false
        → unless_old request_ms now asked ≡ asked
    step None young = refl
    step (Some a) young = ap (λ b. cond b None (Some a)) young

pub without_old-old : (request_ms now : ℕ) (p : Present) → is_aged request_ms now p ≡ true
    → without_old request_ms now p ≡ record { owner = p.owner; stay = p.stay; asked = None }
without_old-old request_ms now p old =
    ap (λ asked. record { owner = p.owner; stay = p.stay; asked = asked }) (step p.asked old)
  where
    step : (asked : Option Asked) → option_map_or (λ (a : Asked). is_old request_ms now a.stamp) asked false ≡ true
        → unless_old request_ms now asked ≡ None
    step None old = absurd (cc)
    step (Some a) old = ap (λ b. cond b None (Some a)) old

pub aged-young : (request_ms now n : ℕ) (present : List Present) (d : Present) → n < length present
    → is_aged request_ms now (get_or present n d) ≡ false → aged request_ms now (suc n) present ≡ aged request_ms now n present
aged-young request_ms now n [] d below young = absurd (omega (arith, below))
aged-young request_ms now zero (p ∷ present) d below young = ap (λ q. q ∷ present) (without_old-young request_ms now p young)
aged-young request_ms now (suc n) (p ∷ present) d below young =
    ap (λ ps. without_old request_ms now p ∷ ps) (aged-young request_ms now n present d (omega (arith, below)) young)

-- what an in-place walk leaves after one more of them
pub aged_old : (request_ms now n : ℕ) (present slice : List Present) (p : Present) → n < length present → slice ≡ aged request_ms now n present
    → p ≡ get_or slice n p → is_aged request_ms now p ≡ true
    → set slice n (record { owner = p.owner; stay = p.stay; asked = None }) ≡ aged request_ms now (n + 1) present
aged_old request_ms now n present slice p below is read old =
    let first : p ≡ get_or present n p = read ∙ ap (λ xs. get_or xs n p) is ∙ get_or-aged request_ms now n present p below in
    let next : suc n ≡ n + 1 = omega arith in
    ap (set slice n) (sym (without_old-old request_ms now p old))
    ∙ ap (λ xs. set xs n (without_old request_ms now p)) is
    ∙ ap (λ q. set (aged request_ms now n present) n (without_old request_ms now q)) first
    ∙ set-aged request_ms now n present p below
    ∙ ap (λ k. aged request_ms now k present) next

pub aged_young : (request_ms now n : ℕ) (present slice : List Present) (p : Present) → n < length present → slice ≡ aged request_ms now n present
    → p ≡ get_or slice n p → is_aged request_ms now p ≡ false → slice ≡ aged request_ms now (n + 1) present
aged_young request_ms now n present slice p below is read young =
    let first : p ≡ get_or present n p = read ∙ ap (λ xs. get_or xs n p) is ∙ get_or-aged request_ms now n present p below in
    let next : suc n ≡ n + 1 = omega arith in
    is
    ∙ sym (aged-young request_ms now n present p below (sym (ap (is_aged request_ms now) first) ∙ young))
    ∙ ap (λ k. aged request_ms now k present) next

-- ---- calls

rising-expired : (request_ms now : ℕ) (present : List Present) → HasRisingOwners present → HasRisingOwners (map (without_old request_ms now) present)
rising-expired request_ms now present rising =
    subst HasRisingOwners (aged-all request_ms now (length present) present (omega arith)) (rising-aged request_ms now (length present) present rising)

stays-expired : (request_ms now : ℕ) (present : List Present) → HasStays present → HasStays (map (without_old request_ms now) present)
stays-expired request_ms now present stays = All-map (λ (p : Present). 1 ≤ p.stay) (without_old request_ms now) present stays

pub rising-by : (request_ms now : ℕ) (present : List Present) (call : Call) → HasRisingOwners present → HasRisingOwners (present_by request_ms now present call)
rising-by request_ms now present (Stay owner stay Arrive) rising = rising-with present_owner present _ rising
rising-by request_ms now present (Stay owner stay (Ask tuple)) rising = rising-with present_owner present _ rising
rising-by request_ms now present (Stay owner stay Depart) rising = rising-without present_owner present owner.0 rising
rising-by request_ms now present (Time moment Pli) rising = rising
rising-by request_ms now present (Time moment Tick) rising = rising
rising-by request_ms now present (Time moment Expire) rising = rising-expired request_ms now present rising

pub stays-by : (request_ms now : ℕ) (present : List Present) (call : Call) → HasStay call → HasStays present
    → HasStays (present_by request_ms now present call)
stays-by request_ms now present (Stay owner stay Arrive) from stays = all-with present_owner (λ (p : Present). 1 ≤ p.stay) present _ from stays
stays-by request_ms now present (Stay owner stay (Ask tuple)) from stays = all-with present_owner (λ (p : Present). 1 ≤ p.stay) present _ from stays
stays-by request_ms now present (Stay owner stay Depart) from stays = All-filter _ (λ (p : Present). 1 ≤ p.stay) present stays
stays-by request_ms now present (Time moment Pli) from stays = stays
stays-by request_ms now present (Time moment Tick) from stays = stays
stays-by request_ms now present (Time moment Expire) from stays = stays-expired request_ms now present stays

-- an arrive that isn't refused is of an owner that isn't present, and there is room for it
pub absent-arrive : (present : List Present) (owner : ℕ) → HasStays present → unless_absent_with_room present owner ≡ None
    → presence_of present owner ≡ None
absent-arrive present owner stays accepted = absent_without_stay present owner stays (grind (arith, nat_tests, accepted))

pub room-arrive : (present : List Present) (owner : ℕ) → unless_absent_with_room present owner ≡ None → length present < PRESENT_LIMIT
room-arrive present owner accepted = grind (arith, nat_tests, accepted)

-- a request or a depart that isn't refused names the stay with which its owner is present
pub stay_in-named : (present : List Present) (owner stay : ℕ) → unless_present_with present owner stay ≡ None → stay_in present owner ≡ stay
stay_in-named present owner stay accepted = grind (arith, nat_tests, accepted)

pub present-named : (present : List Present) (owner stay : ℕ) → 1 ≤ stay → unless_present_with present owner stay ≡ None
    → presence_of present owner ≡ None → ⊥
present-named present owner stay from accepted =
    present_with_stay present owner (omega (arith, stay_in-named present owner stay accepted, from))

-- how many a call leaves that isn't refused
pub length-by : (request_ms now : ℕ) (present : List Present) (call : Call) → HasRisingOwners present → HasStays present → HasStay call
    → refusal_of present call ≡ None → length (present_by request_ms now present call) ≡ count_by call (length present)
length-by request_ms now present (Stay owner stay Arrive) rising stays from accepted =
    length-with_absent present _ (absent-arrive present owner.0 stays accepted)
length-by request_ms now present (Stay owner stay (Ask tuple)) rising stays from accepted =
    length-with_present present _ rising (present-named present owner.0 stay from accepted)
length-by request_ms now present (Stay owner stay Depart) rising stays from accepted =
    omega (arith, length-without present owner.0 rising (present-named present owner.0 stay from accepted))
length-by request_ms now present (Time moment Pli) rising stays from accepted = refl
length-by request_ms now present (Time moment Tick) rising stays from accepted = refl
length-by request_ms now present (Time moment Expire) rising stays from accepted = length-map present (without_old request_ms now)

pub few-by : (request_ms now : ℕ) (present : List Present) (call : Call) → HasRisingOwners present → HasStays present → HasStay call
    → refusal_of present call ≡ None → length present ≤ PRESENT_LIMIT → length (present_by request_ms now present call) ≤ PRESENT_LIMIT
few-by request_ms now present (Stay owner stay Arrive) rising stays from accepted few =
    omega (arith, length-by request_ms now present (Stay owner stay Arrive) rising stays from accepted, room-arrive present owner.0 accepted)
few-by request_ms now present (Stay owner stay (Ask tuple)) rising stays from accepted few =
    omega (arith, length-by request_ms now present (Stay owner stay (Ask tuple)) rising stays from accepted, few)
few-by request_ms now present (Stay owner stay Depart) rising stays from accepted few =
    omega (arith, length-by request_ms now present (Stay owner stay Depart) rising stays from accepted, few)
few-by request_ms now present (Time moment signal) rising stays from accepted few =
    omega (arith, length-by request_ms now present (Time moment signal) rising stays from accepted, few)
