use Rattle.std.proofs.Common.{◌≡◌, ◌++◌, take}
use Rattle.std.specs.List.{flat_map}
use Rattle.udp.specs.Goodbyes.{leg_goodbye}
use Rattle.udp.proofs.goodbyes.push_legs.Given as goal

abbrev pub invariant-loop-leg : goal.invariant-loop-leg
invariant-loop-leg l = l.bytes.items ≡ l.fn.bytes.items ++ flat_map (leg_goodbye l.endpoint) (take l.leg-index l.legs)
