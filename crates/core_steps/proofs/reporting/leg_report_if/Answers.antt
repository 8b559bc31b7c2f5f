use Rattle.std.proofs.Common.{◌∙◌, [], sym}
use Rattle.std.proofs.lemmas.Bool.{cond-true}
use Rattle.core_steps.specs.Hearing.{leg_report}
use Rattle.core_steps.specs.Machine.{setup_of}
use Rattle.core_steps.specs.Rounds.{comes_between}
use Rattle.core_steps.proofs.reporting.leg_report_if.Goals as goal

pub returns-then-is_due : goal.returns-then-is_due
returns-then-is_due c =
    λ bits. c.leg_report.ensures bits
    ∙ sym (cond-true (comes_between (setup_of c.args.setup.now) c.args.slots.done c.args.slots.come c.args.leg)
    (leg_report c.args.setup.now.links c.args.room.now (c.args.leg, c.args.settings.now)) [] (sym c.if-is_due.ensures))
