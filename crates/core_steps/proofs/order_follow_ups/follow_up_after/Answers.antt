use Rattle.std.proofs.Common.{◌∙◌, ap, sym}
use Rattle.members.specs.declared.order.Order.{Order}
use Rattle.core_steps.specs.Hearing.{task_after}
use Rattle.core_steps.specs.Machine.{setup_of}
use Rattle.core_steps.proofs.order_follow_ups.follow_up_after.Goals as goal

pub returns-in-Depart : goal.returns-in-Depart
returns-in-Depart c =
    λ bits. c.goodbye_after.ensures bits
    ∙ ap (λ (o : Order). task_after (setup_of c.args.setup.now) c.args.room.now o) (sym c.in-Depart.is)

pub returns-in-Route : goal.returns-in-Route
returns-in-Route c =
    λ bits. c.picture_after.ensures bits
    ∙ ap (λ (o : Order). task_after (setup_of c.args.setup.now) c.args.room.now o) (sym c.in-Route.is)
