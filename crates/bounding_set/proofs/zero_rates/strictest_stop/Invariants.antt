use Rattle.bounding_set.proofs.StopScans.{IsStrictestSoFar}
use Rattle.bounding_set.proofs.zero_rates.strictest_stop.Given as goal

abbrev pub invariant-loop-row : goal.invariant-loop-row
invariant-loop-row l = IsStrictestSoFar l.rows l.row-index l.strictest
