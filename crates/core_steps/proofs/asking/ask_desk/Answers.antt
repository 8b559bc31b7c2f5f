use Rattle.core_steps.proofs.AskingLemmas.{replied}
use Rattle.core_steps.proofs.asking.ask_desk.Goals as goal

pub returns-in-Ok : goal.returns-in-Ok
returns-in-Ok c =
    replied c.args.question.now c.args.desk.now c.call.new.self c.in-Ok.field-0.number c.in-Ok.field-0.answer c.call.new.effect
    c.notification_of-notification.result
    _
    c.args.outs.now.items
    c.refuse.new.outs.items
    c.in-Ok.ensures.recorded
    c.in-Ok.ensures.effect
    c.in-Ok.ensures.legal
    c.notification_of-notification.ensures
    (c.waiting.ensures c.call.new.effect)
    c.refuse.ensures
