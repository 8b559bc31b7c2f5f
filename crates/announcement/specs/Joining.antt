-- How a feedback packet that is written stands in compound datagrams (RFC 3550, section 6.1).
use Rattle.std.specs.Prelude.{ℕ, List, [], ◌∷◌, ◌++◌}
use Rattle.rtcp_compound.specs.Content.{feedback}
use Rattle.rtcp_compound.specs.Grammar.{RtcpPacket, ReadsRtcp}
use Rattle.rtcp_compound.specs.Written.{Appends, plain_packet}
use Rattle.rtcp_feedback.specs.Writing.{packet_bytes}

-- These bytes are one RTCP packet, whole and without padding, which shows this FMT, type and body. It is read alone, and
-- in front of any datagram, whose packets then follow (RFC 3550, section 6.1).
pub record JoinsCompounds (fmt kind : ℕ) (body : List ℕ) : Type 0 where
  pub one : Appends [] (packet_bytes fmt kind body) (plain_packet fmt kind body)
      (feedback fmt kind body)
  pub alone : ReadsRtcp (packet_bytes fmt kind body) (plain_packet fmt kind body ∷ [])
  pub front : (datagram : List ℕ) (others : List RtcpPacket) → ReadsRtcp datagram others
      → ReadsRtcp (packet_bytes fmt kind body ++ datagram) (plain_packet fmt kind body ∷ others)
