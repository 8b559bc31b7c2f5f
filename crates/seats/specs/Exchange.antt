-- What is heard of what a client sent, and what it is told: the same but for names (RFC 7667, section 3.7).
use Rattle.std.specs.Prelude.{◌≡◌, ◌<◌, ◌≤◌, ◌+◌, ◌*◌, ℕ, nat_le, true, false, List, ◌++◌, length, map, take, drop, if◌then◌else◌}
use Rattle.std.specs.List.{flat_map}
use Rattle.rtcp_compound.specs.Fault.{Refuses}
use Rattle.rtcp_compound.specs.Grammar.{AreJoined, ReadsRtcp, RtcpPacket, packet_bytes}
use Rattle.rtcp_compound.specs.Mux.{is_rtcp}
use Rattle.rtcp_compound.specs.Reading.{packets_in}
use Rattle.rtcp_compound.specs.declared.fault.RtcpFault.{RtcpFault}
use Rattle.seats.specs.Names.{exchanged, sends_as}
use Rattle.seats.specs.Places.{heard_packet, heard_places, told_packet, told_places, word_as}
use Rattle.seats.specs.declared.names.Names.{Names}
use Rattle.seats.specs.declared.places.Places.{Places}
use Rattle.seats.specs.declared.renaming.Way.{Way}
use Rattle.seats.specs.declared.renaming.Way.TheVariants.{Heard, Told}

-- Of RTCP each packet is renamed so, and nothing else changes. What joins no packets stays.
pub record AreRenamed (f : RtcpPacket → RtcpPacket) (before after : List ℕ) : Type 0 where
  pub joined : (packets : List RtcpPacket) → ReadsRtcp before packets → after ≡ flat_map packet_bytes (map f packets)
  pub refused : (fault : RtcpFault) → Refuses before fault → after ≡ before

-- an RTP packet of a client with these names, as it is heard: its source is the seat's name if it is the client's (RFC 3550, section 5.1)
abbrev pub heard_media : Names → List ℕ → List ℕ
heard_media n datagram =
    if nat_le 12 (length datagram)
    then take 8 datagram ++ word_as (exchanged n.seat.0 (sends_as n).0) (drop 8 datagram)
    else datagram

-- What a client with these names sent is heard so: names of the client become its seat's, and all else stays, byte for byte.
pub record IsHeardAs (n : Names) (before after : List ℕ) : Type 0 where
  pub rtcp : is_rtcp before ≡ true → AreRenamed (heard_packet n) before after
  pub rtp : is_rtcp before ≡ false → after ≡ heard_media n before

-- Such a client is told this of what is given out for it: where its seat is named stands its own name, and all else stays, byte for byte. RTP is told
-- as it is given.
pub record IsToldAs (n : Names) (before after : List ℕ) : Type 0 where
  pub rtcp : is_rtcp before ≡ true → AreRenamed (told_packet n) before after
  pub rtp : is_rtcp before ≡ false → after ≡ before

-- ---- the steps

abbrev pub places_in : Way → Names → ℕ → ℕ → ℕ → Places
places_in Heard n kind count size = heard_places n kind count size
places_in Told n kind count size = told_places n kind count size

abbrev pub packet_as : Way → Names → RtcpPacket → RtcpPacket
packet_as Heard n p = heard_packet n p
packet_as Told n p = told_packet n p

-- if there are entries, they stand within so many bytes
abbrev pub Fits : Places → ℕ → Type 0
Fits p size = 0 < p.count → p.from + p.size * p.count ≤ size

-- these are packets, one after the other, or none
pub record IsJoined (bytes : List ℕ) : Type 0 where
  pub packets : List RtcpPacket
  pub joined : AreJoined packets
  pub bytes_are : bytes ≡ flat_map packet_bytes packets

-- the bytes of packets that are each renamed so
unfoldable pub renamed_packets : (RtcpPacket → RtcpPacket) → List ℕ → List ℕ
renamed_packets f bytes = flat_map packet_bytes (map f (packets_in bytes))
