use Rattle.commands.proofs.CommandLemmas.{unit_ends, unit_undone}
use Rattle.commands.proofs.command.serve_recorded.Goals as goal

pub returns-in-Err-clause-ends : goal.returns-in-Err-clause-ends
returns-in-Err-clause-ends g c = unit_undone _ _ _ _ _ c.say_record.ensures.failed.0 c.say_record.ensures.said

pub returns-in-Ok-clause-ends : goal.returns-in-Ok-clause-ends
returns-in-Ok-clause-ends g c = unit_ends _ _ c.args.term.ticks _ _ _ _ _ c.serve_file.ensures.ends c.serve_file.ensures.said
