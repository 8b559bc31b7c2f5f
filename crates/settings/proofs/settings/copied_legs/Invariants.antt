use Rattle.std.proofs.Common.{◌≡◌, map, take, length}
use Rattle.settings.specs.Settings.{leg_of}
use Rattle.settings.proofs.settings.copied_legs.Given as goal

abbrev pub invariant-loop-leg : goal.invariant-loop-leg
invariant-loop-leg l = l.legs.items ≡ map (leg_of (length l.parts.endpoints.items)) (take l.leg-index l.parts.legs.items)
