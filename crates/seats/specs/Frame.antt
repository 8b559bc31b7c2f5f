-- How long the parts of a packet are (RFC 3550, section 6.4.1).
use Rattle.std.specs.Prelude.{◌≡◌, ◌==◌, ◌<◌, ◌+◌, ◌-◌, ◌/◌, ◌%◌, ℕ, List, [], ◌++◌, length, slice_index, if◌then◌else◌}
use Rattle.rtcp_compound.specs.Grammar.{IsPacket, RtcpPacket, packet_bytes}
use Rattle.seats.specs.declared.frame.Frame.{Frame}

-- The bytes begin with this packet, before the rest; with padding it is the last.
pub record StandsFirst (bytes : List ℕ) (p : RtcpPacket) (rest : List ℕ) : Type 0 where
  pub whole : IsPacket p
  pub last : 0 < length p.padding → rest ≡ []
  pub bytes_are : bytes ≡ packet_bytes p ++ rest

-- how many bytes it has, with its header
abbrev pub packet_size : RtcpPacket → ℕ
packet_size p = 4 + (length p.body + length p.padding)

abbrev pub frame_in : RtcpPacket → Frame
frame_in p = record { count = p.count; kind = p.kind; body = length p.body; size = packet_size p }

-- how many bytes of padding end it, by its first byte and its last
abbrev pub padding_behind : List ℕ → ℕ
padding_behind packet =
    if (slice_index packet 0 / 32 % 2) == 1 then slice_index packet (length packet - 1) else 0
