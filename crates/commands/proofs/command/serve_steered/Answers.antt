use Rattle.commands.proofs.CommandLemmas.{unit_undone}
use Rattle.commands.proofs.command.serve_steered.Goals as goal

pub returns-in-Err-clause-ends : goal.returns-in-Err-clause-ends
returns-in-Err-clause-ends g c = unit_undone _ _ _ _ _ c.say_control.ensures.failed.0 c.say_control.ensures.said
