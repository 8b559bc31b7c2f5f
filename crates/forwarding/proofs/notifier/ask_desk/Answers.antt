use Rattle.std.proofs.Common.{ℕ, sym, ap, ◌∙◌}
use Rattle.desk_calls.specs.Notification.{told_of}
use Rattle.forwarding.proofs.AskingLemmas.{told_of_last}
use Rattle.forwarding.proofs.notifier.ask_desk.Goals as goal

-- who was asked is the desk that is held
pub returns-clause-last : goal.returns-clause-last
returns-clause-last g c =
    told_of_last c.call_held.new.hold c.in-Ok.receipt c.args.hold.now.desk c.args.question.now.asked_by c.call_held.new.effect c.waiting.result
    c.notification_of-notification.result c.in-Ok.ensures.last
    (c.notification_of-notification.ensures
    ∙ ap (λ (p : ℕ). told_of p c.args.question.now.asked_by c.in-Ok.receipt.answer) (sym (c.in-Ok.ensures.place ∙ c.requires.publisher)))
    (c.waiting.ensures c.call_held.new.effect)
