-- What is held for a leg is what its subscriber asked for last.
use Rattle.std.proofs.Common.{◌≡◌, ◌≢◌, ◌∙◌, ◌==◌, ◌<◌, ℕ, zero, suc, Bool, true, false, List, [], ◌∷◌, length, set, refl, ap, subst, arith}
use Rattle.std.specs.Prelude.{Option, None, Some, option_map, slice_get, if◌then◌else◌}
use Rattle.std.proofs.lemmas.Bool.{eqb-true}
use Rattle.std.proofs.lemmas.Bool.Decides.{nat_tests}
use Rattle.std.proofs.lemmas.Option.{slice_get-map, slice_get_within}
use Rattle.settings.specs.declared.settings.LegSettings.{LegSettings}
use Rattle.policy.specs.Requests.{Happening, HoldsLast, asked_last, asks, held_after, leaves, place_with, place_without, unasked, with_request}
use Rattle.policy.specs.declared.requests.HeldRequest.{HeldRequest}
use Rattle.policy.specs.declared.requests.LegRequest.{LegRequest}

at_set_same : (xs : List LegRequest) (i : ℕ) (x : LegRequest) → i < length xs → slice_get (set xs i x) i ≡ Some x
at_set_same [] i x h = absurd (omega arith)
at_set_same (y ∷ ys) zero x h = refl
at_set_same (y ∷ ys) (suc i) x h = at_set_same ys i x (omega arith)

at_set_other : (xs : List LegRequest) (i j : ℕ) (x : LegRequest) → j ≢ i → slice_get (set xs i x) j ≡ slice_get xs j
at_set_other [] i j x h = refl
at_set_other (y ∷ ys) zero zero x h = absurd (h refl)
at_set_other (y ∷ ys) zero (suc j) x h = refl
at_set_other (y ∷ ys) (suc i) zero x h = refl
at_set_other (y ∷ ys) (suc i) (suc j) x h = at_set_other ys i j x (λ e. h (ap suc e))

-- a leg with a request, seen from the leg
asked_here : (legs : List LegRequest) (leg : ℕ) (request : HeldRequest) (place : LegRequest) → slice_get legs leg ≡ Some place
    → slice_get (with_request legs leg request) leg ≡ Some (record { subscriber = place.subscriber; request = Some request })
asked_here legs leg request place at =
    ap (λ (o : Option LegRequest). slice_get (place_with legs leg request o) leg) at
    ∙ at_set_same legs leg (record { subscriber = place.subscriber; request = Some request }) (slice_get_within legs leg place at)

-- and from another one
asked_elsewhere : (legs : List LegRequest) (leg other : ℕ) (request : HeldRequest) (found : Option LegRequest) → leg ≢ other
    → slice_get (place_with legs other request found) leg ≡ slice_get legs leg
asked_elsewhere legs leg other request None apart = refl
asked_elsewhere legs leg other request (Some place) apart =
    at_set_other legs other leg (record { subscriber = place.subscriber; request = Some request }) apart

asked : (legs : List LegRequest) (leg other : ℕ) (request : HeldRequest) (place : LegRequest) (b : Bool) → (leg == other) ≡ b
    → slice_get legs leg ≡ Some place
    → slice_get (with_request legs other request) leg
    ≡ Some (record { subscriber = place.subscriber; request = if b then Some request else place.request })
asked legs leg other request place true same at =
    subst (λ (o : ℕ). slice_get (with_request legs o request) leg ≡ Some (record { subscriber = place.subscriber; request = Some request }))
    (eqb-true leg other same) (asked_here legs leg request place at)
asked legs leg other request place false apart at =
    asked_elsewhere legs leg other request (slice_get legs other) (λ e. grind (arith, nat_tests)) ∙ at

left_by : (who : ℕ) (place : LegRequest) (b : Bool) → (place.subscriber == who) ≡ b
    → place_without who place ≡ record { subscriber = place.subscriber; request = if b then None else place.request }
left_by who place true same = ap (λ (t : Bool). if t then record place { request = None } else place) same
left_by who place false other = ap (λ (t : Bool). if t then record place { request = None } else place) other

held : (legs : List LegSettings) (happenings : List Happening) (leg : ℕ) (s : LegSettings) → slice_get legs leg ≡ Some s
    → slice_get (held_after legs happenings) leg
    ≡ Some (record { subscriber = s.subscriber; request = asked_last leg s.subscriber happenings })
held legs [] leg s at = slice_get-map unasked legs leg ∙ ap (option_map unasked) at
held legs (asks other request ∷ earlier) leg s at =
    asked (held_after legs earlier) leg other request (record { subscriber = s.subscriber; request = asked_last leg s.subscriber earlier })
    (leg == other) refl (held legs earlier leg s at)
held legs (leaves who ∷ earlier) leg s at =
    slice_get-map (place_without who) (held_after legs earlier) leg
    ∙ ap (option_map (place_without who)) (held legs earlier leg s at)
    ∙ ap (λ (p : LegRequest). Some p)
    (left_by who (record { subscriber = s.subscriber; request = asked_last leg s.subscriber earlier }) (s.subscriber == who) refl)

pub holds_last : (legs : List LegSettings) (happenings : List Happening) (leg : ℕ) (s : LegSettings) → slice_get legs leg ≡ Some s
    → HoldsLast legs happenings leg s
holds_last legs happenings leg s at = record { held = held legs happenings leg s at }
