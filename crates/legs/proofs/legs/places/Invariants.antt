use Rattle.std.proofs.Common.{◌≡◌, ℕ, ◌≤◌, drop, length}
use Rattle.std.specs.Prelude.{nat_eq}
use Rattle.std.specs.HashMap.{get}
use Rattle.std.specs.List.{enumerate_from}
use Rattle.legs.specs.Planning.{leg_place}
use Rattle.legs.proofs.legs.places.Given as goal

abbrev pub invariant-loop-place : goal.invariant-loop-place
invariant-loop-place l = record {
  within : l.place ≤ length l.legs;
  found : (number : ℕ) → get nat_eq l.places number ≡ leg_place number (enumerate_from l.place (drop l.place l.legs));
}

abbrev pub decreases-loop-place : goal.decreases-loop-place
decreases-loop-place l = l.place
