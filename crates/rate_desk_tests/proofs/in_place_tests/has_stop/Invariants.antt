use Rattle.std.specs.List.{AllWithin}
use Rattle.bounding_set.specs.Canonical.{StopsMedia}
use Rattle.rate_desk_tests.proofs.in_place_tests.has_stop.Given as goal

abbrev pub invariant-loop-row : goal.invariant-loop-row
invariant-loop-row l = AllWithin (λ r. ¬ StopsMedia r) l.rows 0 l.row-index
