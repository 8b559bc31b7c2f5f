use Rattle.std.proofs.Common.{◌+◌, ◌<◌, ◌^◌, length, Result}
use Rattle.rtcp_compound.specs.Left.{contents_left}
use Rattle.rtcp_feedback.specs.declared.fault.FbFault.{FbFault}
use Rattle.datagram.specs.Reads.{IsSurveyOf}
use Rattle.datagram.specs.Saying.{Gist, PacketsSay}
use Rattle.datagram.proofs.ReaderLemmas.{behind}
use Rattle.datagram.proofs.survey.survey_packets.Given as goal

abbrev pub invariant-loop-packet : goal.invariant-loop-packet
invariant-loop-packet l = (done : Gist) × IsSurveyOf l.own.0 l.all done
    × (l.all.control.tmmbns + length (contents_left l.packet-iterator) < 2 ^ 64)
    × ((said : Result Gist FbFault) → PacketsSay (contents_left l.packet-iterator) said → PacketsSay (contents_left l.fn.packets) (behind done said))
