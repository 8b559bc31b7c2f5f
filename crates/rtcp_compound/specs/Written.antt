-- The packets that the writers append: without padding, and with nothing after what is counted.
use Rattle.std.specs.Prelude.{◌≡◌, ℕ, ◌+◌, ◌-◌, ◌%◌, List, [], ◌∷◌, ◌++◌, length, replicate}
use Rattle.std.specs.List.{flat_map}
use Rattle.byteorder.specs.Endian.{big_bytes}
use Rattle.rtcp_compound.specs.Content.{Content, packet_content}
use Rattle.rtcp_compound.specs.Grammar.{RtcpPacket, packet_bytes, IsPacket, Chunk, chunk_bytes}
use Rattle.rtcp_compound.specs.Report.{ReportBlock, block_bytes}
use Rattle.rtcp_compound.specs.declared.packet.TheConstants.{SR, RR, SDES, BYE}

abbrev pub plain_packet : ℕ → ℕ → List ℕ → RtcpPacket
plain_packet count kind body = record { count = count; kind = kind; body = body; padding = [] }

-- a sender report: sender, NTP and RTP timestamps, packets, octets, blocks (RFC 3550, section 6.4.1)
unfoldable pub sr_packet : ℕ → ℕ → ℕ → ℕ → ℕ → List ReportBlock → RtcpPacket
sr_packet sender ntp rtp packets octets blocks =
    plain_packet (length blocks) SR
    (big_bytes 4 sender
    ++ (big_bytes 8 ntp
    ++ (big_bytes 4 rtp
    ++ (big_bytes 4 packets ++ (big_bytes 4 octets ++ flat_map block_bytes blocks)))))

-- a receiver report (RFC 3550, section 6.4.2)
unfoldable pub rr_packet : ℕ → List ReportBlock → RtcpPacket
rr_packet sender blocks =
    plain_packet (length blocks) RR (big_bytes 4 sender ++ flat_map block_bytes blocks)

-- one source with its CNAME, an item of type 1, filled with zeros (RFC 3550, sections 6.5 and 6.5.1)
unfoldable pub cname_chunk : ℕ → List ℕ → Chunk
cname_chunk source cname = record {
  source = big_bytes 4 source;
  items = record { kind = 1; text = cname } ∷ [];
  filling = replicate (3 - (length cname + 2) % 4) 0;
}

-- a description of one source by its CNAME alone (RFC 3550, sections 6.5 and 6.5.1)
unfoldable pub cname_packet : ℕ → List ℕ → RtcpPacket
cname_packet source cname = plain_packet 1 SDES (chunk_bytes (cname_chunk source cname))

-- a goodbye without a reason (RFC 3550, section 6.6)
unfoldable pub bye_packet : List ℕ → RtcpPacket
bye_packet sources = plain_packet (length sources) BYE (flat_map (big_bytes 4) sources)

-- After the old bytes this packet stands now. It is whole and without padding, and what it says is this content
-- (RFC 3550, sections 6.4 to 6.6).
pub record Appends (old new : List ℕ) (packet : RtcpPacket) (content : Content) : Type 0 where
  pub bytes_are : new ≡ old ++ packet_bytes packet
  pub whole : IsPacket packet
  pub no_padding : packet.padding ≡ []
  pub says : packet_content packet ≡ content
