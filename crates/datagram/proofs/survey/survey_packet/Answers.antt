use Rattle.std.proofs.Common.{Ok, refl, sym, subst}
use Rattle.rtcp_compound.specs.declared.view.RtcpView.{RtcpView}
use Rattle.rtcp_compound.specs.Content.{content_of, sources_left}
use Rattle.datagram.specs.Saying.{Gist, PacketSays, clocked_by, empty_gist}
use Rattle.datagram.proofs.survey.survey_packet.Goals as goal

pub returns-in-Sr-clause-said : goal.returns-in-Sr-clause-said
returns-in-Sr-clause-said c =
    let sent = c.of_sender-said.ensures in
    let gist : Gist = clocked_by c.in-Sr.sender.0 (c.in-Sr.ntp, c.in-Sr.rtp) in
    let says : RtcpView → Type 0 = λ p. PacketSays (content_of p) (Ok gist) in (
      gist,
      subst says (sym c.in-Sr.is) refl,
      record { goodbye = sent.goodbye; asking = sent.asking; speaker = sent.speaker; report = refl; tmmbns = sent.tmmbns; clocked = sent.speaker },
    )

pub returns-in-Bye-clause-said : goal.returns-in-Bye-clause-said
returns-in-Bye-clause-said c =
    let silent = c.silent-said.ensures in
    let gist : Gist = record empty_gist { goodbyes = sources_left c.in-Bye.sources } in
    let says : RtcpView → Type 0 = λ p. PacketSays (content_of p) (Ok gist) in (
      gist,
      subst says (sym c.in-Bye.is) refl,
      record { goodbye = c.names.ensures; asking = silent.asking; speaker = silent.speaker; report = silent.report; tmmbns = silent.tmmbns; clocked = silent.clocked },
    )
