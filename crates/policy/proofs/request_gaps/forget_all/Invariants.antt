use Rattle.std.proofs.Common.{◌≡◌, ◌++◌, take, drop, map}
use Rattle.policy.specs.RequestGaps.{leg_without}
use Rattle.policy.proofs.request_gaps.forget_all.Given as goal

abbrev pub invariant-loop-leg : goal.invariant-loop-leg
invariant-loop-leg l = map (leg_without l.subscriber) l.initial.legs ≡ take l.leg-index l.legs ++ map (leg_without l.subscriber) (drop l.leg-index l.legs)
