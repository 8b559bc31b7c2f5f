use Rattle.std.proofs.Common.{◌≡◌}
use Rattle.std.specs.Prelude.{vec_len}
use Rattle.stats.proofs.cells.endpoint_cells.Given as goal

abbrev pub invariant-loop-source : goal.invariant-loop-source
invariant-loop-source l = vec_len l.all ≡ l.source-index
