use Rattle.std.proofs.Common.{◌≡◌, map, take}
use Rattle.stats.specs.Figures.{leg_sample}
use Rattle.stats.proofs.figures.leg_samples.Given as goal

abbrev pub invariant-loop-seen : goal.invariant-loop-seen
invariant-loop-seen l = l.samples.items ≡ map (leg_sample l.figure) (take l.seen-index l.legs)
