use Rattle.std.proofs.Common.{arith}
use Rattle.bounding_set.proofs.line_end.LineEnd.pair_to.Goals as goal

pub overflow_sub-result : goal.overflow_sub-result
overflow_sub-result c = rw (c.from.ensures, c.rate.ensures.value) (omega (arith, c.requires.left, c.requires.right))
