use Rattle.std.proofs.Common.{◌≡◌, drop}
use Rattle.policy.specs.RequestGaps.{first_due, look_of}
use Rattle.policy.proofs.request_gaps.first_due.Given as goal

abbrev pub invariant-loop-place : goal.invariant-loop-place
invariant-loop-place l =
    first_due (look_of l.look) l.from l.place (drop l.place l.legs) ≡ first_due (look_of l.look) l.from 0 l.legs
