use Rattle.std.proofs.Common.{◌≡◌, ◌++◌, take, drop, map}
use Rattle.members.specs.Stays.{leg_without}
use Rattle.members.proofs.stays.end_stays.Given as goal

abbrev pub invariant-loop-leg : goal.invariant-loop-leg
invariant-loop-leg l = map (leg_without l.endpoint) l.initial.legs ≡ take l.leg-index l.legs ++ map (leg_without l.endpoint) (drop l.leg-index l.legs)
