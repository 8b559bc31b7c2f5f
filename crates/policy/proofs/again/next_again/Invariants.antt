use Rattle.std.proofs.Common.{◌≡◌, drop}
use Rattle.policy.specs.Again.{next_again, terms}
use Rattle.policy.proofs.again.next_again.Given as goal

abbrev pub invariant-loop-place : goal.invariant-loop-place
invariant-loop-place l =
    next_again (terms l.holdings) l.from l.place (drop l.place l.legs) ≡ next_again (terms l.holdings) l.from 0 l.legs
