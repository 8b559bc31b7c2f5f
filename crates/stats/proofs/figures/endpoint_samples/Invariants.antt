use Rattle.std.proofs.Common.{◌≡◌, map, take}
use Rattle.stats.specs.Figures.{endpoint_sample}
use Rattle.stats.proofs.figures.endpoint_samples.Given as goal

abbrev pub invariant-loop-seen : goal.invariant-loop-seen
invariant-loop-seen l = l.samples.items ≡ map (endpoint_sample l.figure) (take l.seen-index l.endpoints)
