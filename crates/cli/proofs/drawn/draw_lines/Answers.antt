-- Searched for here, so that a wrong body is refused at once: a goal without an answer is tried in other ways, too, and printed.
use Rattle.std.proofs.Common.{rules}
use Rattle.cli.proofs.drawn.draw_lines.Goals as goal

pub returns-clause-done : goal.returns-clause-done
returns-clause-done g c = search rules
