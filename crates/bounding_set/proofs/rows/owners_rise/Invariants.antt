use Rattle.bounding_set.proofs.LastLemmas.{RiseTo}
use Rattle.bounding_set.proofs.rows.owners_rise.Given as goal

abbrev pub invariant-loop-place : goal.invariant-loop-place
invariant-loop-place l = RiseTo l.requests l.place
