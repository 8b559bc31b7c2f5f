use Rattle.sfu_c.proofs.SendingLemmas.{hands_written}
use Rattle.sfu_c.proofs.sending.hand_out.Goals as goal

pub returns-then-answer-eq-DONE-clause-answers : goal.returns-then-answer-eq-DONE-clause-answers
returns-then-answer-eq-DONE-clause-answers c =
    let written = c.write_next-answer in
    hands_written c.args.room.now written.new.room written.result c.args.conference.now c.take_next.new.self
    c.if-answer-eq-DONE.true written.ensures c.take_next.ensures.waiting c.take_next.ensures.world
