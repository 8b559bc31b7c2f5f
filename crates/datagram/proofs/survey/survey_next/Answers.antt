use Rattle.std.proofs.Common.{Err, Ok}
use Rattle.datagram.proofs.ReaderLemmas.{said_behind}
use Rattle.datagram.specs.Saying.{joint_gist}
use Rattle.rtcp_compound.specs.Content.{content_of}
use Rattle.datagram.proofs.survey.survey_next.Goals as goal

pub returns-in-Ok-clause-said : goal.returns-in-Ok-clause-said
returns-in-Ok-clause-said c = λ done g say is.
    let (n, one, its) = c.in-Ok.ensures.said in
    (joint_gist g n, said_behind done (content_of c.args.packet) g (Ok n) say one, c.then.ensures.joined g n is its)

pub returns-in-Err-clause-said : goal.returns-in-Err-clause-said
returns-in-Err-clause-said c = λ done g say is.
    said_behind done (content_of c.args.packet) g (Err c.in-Err.fault) say c.in-Err.ensures.said
