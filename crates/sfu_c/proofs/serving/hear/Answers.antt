use Rattle.sfu_c.proofs.ServingLemmas.{answers_hearing}
use Rattle.sfu_c.proofs.serving.hear.Goals as goal

pub returns : goal.returns
returns c =
    let said = c.hear_limited.ensures in
    answers_hearing c.args.moment c.args.endpoint c.args.bytes.now c.args.conference.now c.hear_limited.new.self c.hear_limited.result
    c.event_answer.result c.event_answer.ensures said.ok said.settled said.busy said.err
