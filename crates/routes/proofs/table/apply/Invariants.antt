use Rattle.std.proofs.Common.{◌≡◌, fold, take}
use Rattle.members.specs.Rows.{row_changed}
use Rattle.routes.proofs.table.apply.Given as goal

abbrev pub invariant-loop-change : goal.invariant-loop-change
invariant-loop-change l = l.rows ≡ fold row_changed l.fn.rows (take l.change-index l.changes)
