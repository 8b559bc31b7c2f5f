use Rattle.rtp_packet.specs.Parts.{rtp_packet_of}
use Rattle.shared_packet.proofs.RtpLemmas.{reads_rtp, number_read, payload_read, faulty}
use Rattle.shared_packet.proofs.packet.reading_of.Goals as goal

pub returns-in-Ok : goal.returns-in-Ok
returns-in-Ok c = record {
  is_packet = reads_rtp c.args.bytes.now (rtp_packet_of c.in-Ok.packet) c.in-Ok.ensures.read;
  number = number_read c.args.bytes.now (rtp_packet_of c.in-Ok.packet) c.in-Ok.ensures.read;
  octets = payload_read c.args.bytes.now (rtp_packet_of c.in-Ok.packet) c.in-Ok.ensures.read;
}

pub returns-in-Err : goal.returns-in-Err
returns-in-Err c = faulty c.args.bytes.now _ c.in-Err.ensures.fault
