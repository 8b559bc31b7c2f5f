use Rattle.std.proofs.Common.{rules}
use Rattle.drawing.specs.Scale.{column}
use Rattle.drawing.proofs.scale.column.Goals as goal

pub returns-clause-value : goal.returns-clause-value
unfolding column
returns-clause-value c = search rules
