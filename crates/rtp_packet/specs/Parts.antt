-- The packet that a view shows.
use Rattle.rtp_packet.specs.declared.view.RtpView.{RtpView}
use Rattle.rtp_packet.specs.Grammar.{RtpPacket}

abbrev pub rtp_packet_of : RtpView → RtpPacket
rtp_packet_of v = record {
  marker = v.marker;
  payload_type = v.payload_type;
  sequence_number = v.sequence_number;
  timestamp = v.timestamp;
  ssrc = v.ssrc.0;
  csrcs = v.csrcs.now;
  extension = v.extension.now;
  payload = v.payload.now;
  padding = v.padding.now;
}
