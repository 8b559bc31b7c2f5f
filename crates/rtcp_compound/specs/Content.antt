-- What a packet says by its type: the tree of its parts (RFC 3550, sections 6.4 to 6.6; RFC 4585, section 6.1).
use Rattle.std.specs.Prelude.{◌==◌, ℕ, ◌*◌, ◌/◌, ◌||◌, List, length, take, drop, if◌then◌else◌}
use Rattle.byteorder.specs.Endian.{big_number}
use Rattle.rtcp_compound.specs.declared.bye.Sources.{Sources}
use Rattle.rtcp_compound.specs.declared.view.RtcpView.{RtcpView}
use Rattle.rtcp_compound.specs.declared.view.RtcpView.TheVariants.{Sr, Rr, Sdes, Bye, Feedback, Other}
use Rattle.rtcp_compound.specs.Entries.{entries_from}
use Rattle.rtcp_compound.specs.Grammar.{RtcpPacket, sources_end}
use Rattle.rtcp_compound.specs.Report.{ReportBlock, blocks_in, blocks_left}
use Rattle.rtcp_compound.specs.declared.packet.TheConstants.{SR, RR, SDES, BYE, RTPFB, PSFB}
use Rattle.rtcp_compound.specs.declared.sizes.TheConstants.{SOURCE_BYTES, SENDER_BYTES, BLOCK_BYTES}

-- the sources that stand whole in the bytes
unfoldable pub sources_in : List ℕ → List ℕ
sources_in bytes = entries_from (big_number 4) SOURCE_BYTES (length bytes / SOURCE_BYTES) bytes

-- the sources that are left
abbrev pub sources_left : Sources → List ℕ
sources_left s = sources_in s.bytes.now

-- What stands after the last block, chunk or source that is counted is an extension, and ignored; but a reader of chunks
-- gets them with it.
pub data Content : Type 0 where
  sender_report : ℕ → ℕ → ℕ → ℕ → ℕ → List ReportBlock → Content
  receiver_report : ℕ → List ReportBlock → Content
  description : ℕ → List ℕ → Content
  goodbye : List ℕ → Content
  feedback : ℕ → ℕ → List ℕ → Content
  other : ℕ → ℕ → List ℕ → Content

-- What a packet says by its type (RFC 3550, sections 6.4 to 6.6): sender, NTP and RTP timestamps, packets, octets and
-- blocks; sender and blocks; count and chunks; sources; FMT, type and body; count, type and body.
unfoldable pub packet_content : RtcpPacket → Content
packet_content p =
    if p.kind == SR then
    sender_report (big_number 4 p.body) (big_number 8 (drop 4 p.body))
    (big_number 4 (drop 12 p.body))
    (big_number 4 (drop 16 p.body)) (big_number 4 (drop 20 p.body))
    (blocks_in (take (BLOCK_BYTES * p.count) (drop SENDER_BYTES p.body)))
    else if p.kind == RR
    then
    receiver_report (big_number 4 p.body)
    (blocks_in (take (BLOCK_BYTES * p.count) (drop SOURCE_BYTES p.body)))
    else if p.kind == SDES then description p.count p.body
    else if p.kind == BYE then goodbye (sources_in (take (sources_end p.count) p.body))
    else if (p.kind == RTPFB) || (p.kind == PSFB) then feedback p.count p.kind p.body
    else other p.count p.kind p.body

-- what a view stands for (RFC 3550, sections 6.4 to 6.6)
abbrev pub content_of : RtcpView → Content
content_of (Sr sender ntp rtp packets octets blocks) =
    sender_report sender.0 ntp rtp packets octets (blocks_left blocks)
content_of (Rr sender blocks) = receiver_report sender.0 (blocks_left blocks)
content_of (Sdes count chunks) = description count chunks.now
content_of (Bye sources) = goodbye (sources_left sources)
content_of (Feedback fmt kind body) = feedback fmt kind body.now
content_of (Other count kind body) = other count kind body.now
