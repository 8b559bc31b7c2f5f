use Rattle.stats.specs.Refusals.{AreCounted}
use Rattle.stats.proofs.refusal_cells.RefusalCells.push_counts.Given as goal

abbrev pub invariant-loop-refusal : goal.invariant-loop-refusal
invariant-loop-refusal l = AreCounted l.all.items
