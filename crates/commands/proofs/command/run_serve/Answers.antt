use Rattle.commands.proofs.CommandLemmas.{ends_unnumbered, unit_undone}
use Rattle.commands.proofs.command.run_serve.Goals as goal

pub returns-in-Err-clause-ends : goal.returns-in-Err-clause-ends
returns-in-Err-clause-ends g c =
    ends_unnumbered _ _ _ _ _ _ _ (unit_undone _ _ _ _ _ c.report_settings.ensures.failed.0 c.report_settings.ensures.said)
