use Rattle.std.proofs.Common.{length, refl}
use Rattle.rtp_packet.specs.Parts.{rtp_packet_of}
use Rattle.datagram.specs.Saying.{media}
use Rattle.datagram.proofs.reader.read_rtp.Goals as goal

pub returns-in-Ok : goal.returns-in-Ok
returns-in-Ok c =
    let view = c.in-Ok.view in
    (media view.ssrc.0 view.sequence_number view.timestamp (length view.payload.now), (rtp_packet_of view, c.in-Ok.ensures.read, refl), refl, refl)
