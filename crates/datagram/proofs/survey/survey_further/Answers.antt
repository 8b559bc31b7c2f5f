use Rattle.std.proofs.Common.{[], ◌∷◌, Result, subst}
use Rattle.rtcp_compound.specs.Content.{content_of}
use Rattle.rtcp_feedback.specs.declared.fault.FbFault.{FbFault}
use Rattle.datagram.specs.declared.survey.Survey.{Survey}
use Rattle.datagram.specs.Reads.{Surveys}
use Rattle.datagram.specs.Saying.{PacketsSay}
use Rattle.datagram.proofs.ReaderLemmas.{fault_stays}
use Rattle.datagram.proofs.survey.survey_further.Goals as goal

pub returns-in-Err-clause-said : goal.returns-in-Err-clause-said
returns-in-Err-clause-said c = λ done say.
    let surveyed : Result Survey FbFault → Type 0 = λ r. Surveys c.args.own.0 (PacketsSay done) r in
    fault_stays done (content_of c.args.packet ∷ []) c.in-Err.fault (subst surveyed c.in-Err.is say)
