-- What is noted of a datagram beside what it says: what its packets hold, be they faulty or not.
use Rattle.std.specs.Prelude.{◌≡◌, ℕ, true, false, List, [], map, take}
use Rattle.std.specs.List.{flat_map}
use Rattle.rtcp_compound.specs.Content.{Content, packet_content}
use Rattle.rtcp_compound.specs.Fault.{Refuses}
use Rattle.rtcp_compound.specs.Grammar.{ReadsRtcp, RtcpPacket}
use Rattle.rtcp_compound.specs.Mux.{is_rtcp}
use Rattle.rtcp_compound.specs.Report.{block_of}
use Rattle.rtcp_compound.specs.declared.fault.RtcpFault.{RtcpFault}
use Rattle.datagram.specs.declared.notes.Notes.{Notes}
use Rattle.datagram.specs.Blocks.{blocks_said}
use Rattle.datagram.specs.Kinds.{kinds_in}
use Rattle.datagram.specs.Notice.{last_notice}

-- This is noted of packets: how many there are of each kind of feedback. Of their report blocks (RFC 3550, section 6.4), and of the
-- entries of the last TMMBN (RFC 5104, section 4.2.2), the first, as many as there is room for.
pub record AreNoted (n : Notes) (contents : List Content) : Type 0 where
  pub kinds : n.kinds ≡ kinds_in contents
  pub blocks : map block_of n.blocks.items ≡ take n.most_blocks (flat_map blocks_said contents)
  pub notice : n.notice.items ≡ take n.most_entries (last_notice contents)

-- This is noted of a datagram of RTCP: of one that joins packets what is noted of these, of one that is refused nothing.
pub record IsRtcpNoted (datagram : List ℕ) (n : Notes) : Type 0 where
  pub joined : (packets : List RtcpPacket) → ReadsRtcp datagram packets → AreNoted n (map packet_content packets)
  pub refused : (fault : RtcpFault) → Refuses datagram fault → AreNoted n []

-- this is noted of a datagram: nothing of one that isn't RTCP (RFC 3550, section 6.4; RFC 5104, section 4.2.2)
abbrev pub IsNoted : List ℕ → Notes → Type 0
IsNoted datagram n =
    (is_rtcp datagram ≡ true → IsRtcpNoted datagram n)
    × (is_rtcp datagram ≡ false → AreNoted n [])

-- there is room for as much as before
abbrev pub HasSameRoom : Notes → Notes → Type 0
HasSameRoom before after =
    (after.most_blocks ≡ before.most_blocks) × (after.most_entries ≡ before.most_entries)
