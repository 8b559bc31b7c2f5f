-- A seat that is taken and given back.
use Rattle.std.proofs.Common.{◌≡◌, ◌∙◌, ap, refl, ℕ, zero, suc, List, [], ◌∷◌, Option, None, Some, slice_get, slice_set}
use Rattle.addresses.specs.declared.learners.Learner.{Learner}
use Rattle.addresses.specs.declared.learned_address.LearnedAddress.{LearnedAddress}
use Rattle.addresses.specs.Learners.{LearnersState, learner_at, seated, some_learner, with_seat}

-- what is set stands there
set_there : {X : Type 0} (xs : List X) (i : ℕ) (x y : X) → slice_get xs i ≡ Some x → slice_get (slice_set xs i y) i ≡ Some y
set_there [] i x y e = cc
set_there (z ∷ zs) zero x y e = refl
set_there (z ∷ zs) (suc i) x y e = set_there zs i x y e

-- what stood there is set again
set_back : {X : Type 0} (xs : List X) (i : ℕ) (x y : X) → slice_get xs i ≡ Some x → slice_set (slice_set xs i y) i x ≡ xs
set_back [] i x y e = cc
set_back (z ∷ zs) zero x y e = cc
set_back (z ∷ zs) (suc i) x y e = ap (λ ws. z ∷ ws) (set_back zs i x y e)

learns_there : (o : Option (Option Learner)) (learner : Learner) → some_learner o ≡ Some learner → o ≡ Some (Some learner)
learns_there None learner e = cc
learns_there (Some o) learner e = ap Some e

-- who takes a seat and then the one that it had is where it was
pub sits_back : (s : LearnersState) (endpoint : ℕ) (seat : LearnedAddress) (learner : Learner) → learner_at s endpoint ≡ Some learner
    → with_seat (with_seat s endpoint seat) endpoint learner.seat ≡ s
sits_back s endpoint seat learner e =
    let there = learns_there (slice_get s.learners endpoint) learner e in
    let now : Option Learner = Some (record { within = learner.within; seat = seat }) in
    let first : with_seat s endpoint seat ≡ record s { learners = slice_set s.learners endpoint now } =
    ap (λ (o : Option Learner). record s { learners = seated s.learners endpoint o seat }) e in
    let second : with_seat (record s { learners = slice_set s.learners endpoint now }) endpoint learner.seat
    ≡ record s { learners = slice_set (slice_set s.learners endpoint now) endpoint (Some learner) } =
    ap (λ (o : Option (Option Learner)). record s { learners = seated (slice_set s.learners endpoint now) endpoint (some_learner o) learner.seat })
    (set_there s.learners endpoint (Some learner) now there) in
    ap (λ (t : LearnersState). with_seat t endpoint learner.seat) first
    ∙ (second ∙ ap (λ (xs : List (Option Learner)). record s { learners = xs }) (set_back s.learners endpoint (Some learner) now there))
