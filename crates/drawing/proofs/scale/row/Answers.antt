use Rattle.std.proofs.Common.{rules}
use Rattle.drawing.specs.Scale.{row}
use Rattle.drawing.proofs.scale.row.Goals as goal

pub returns-clause-value : goal.returns-clause-value
unfolding row
returns-clause-value c = search rules
