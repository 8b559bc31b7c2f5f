use Rattle.web.specs.Answers.{answer_seen}
use Rattle.web.proofs.FieldLemmas.{told}
use Rattle.web.proofs.teller.answer.Goals as goal

pub returns : goal.returns
returns c =
    told c.tell.result c.args.asked c.args.said.now (answer_seen c.in_ok-answer.answer) c.tell.new.response c.in_ok-answer.ensures
    c.tell.ensures
