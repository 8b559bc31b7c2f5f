use Rattle.stats.specs.Refusals.{AreCounted}
use Rattle.stats.proofs.traffic.Traffic.refusals.Given as goal

abbrev pub invariant-loop-place : goal.invariant-loop-place
invariant-loop-place l = AreCounted l.all.items
