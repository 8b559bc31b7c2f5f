use Rattle.bounding_set.proofs.StopScans.{IsLeastSoFar}
use Rattle.bounding_set.proofs.zero_rates.least_reach.Given as goal

abbrev pub invariant-loop-row : goal.invariant-loop-row
invariant-loop-row l = IsLeastSoFar l.rows l.row-index l.least
