use Rattle.std.proofs.Common.{refl}
use Rattle.core_steps.proofs.AskingLemmas.{asked_there, asked_nowhere}
use Rattle.core_steps.proofs.asking.ask.Goals as goal

pub returns-then-at-desks : goal.returns-then-at-desks
returns-then-at-desks c =
    asked_there c.args.question.now c.from-at.result c.index-desks-at.result c.ask_desk.new.desk c.args.desks.now _ c.args.outs.now.items
    c.ask_desk.new.outs.items
    c.from-at.ensures
    c.if-at-desks.true
    c.ask_desk.ensures

pub returns-else-at-desks : goal.returns-else-at-desks
returns-else-at-desks c =
    asked_nowhere c.args.question.now c.from-at.result c.args.desks.now _ c.args.outs.now.items c.from-at.ensures c.if-at-desks.false refl
