-- What a datagram says as an RTP packet (RFC 3550, sections 5.1 and 5.3.1), by its bytes.
use Rattle.std.specs.Prelude.{◌≡◌, ◌==◌, ◌&&◌, ◌||◌, not, ℕ, ◌+◌, ◌-◌, ◌/◌, ◌%◌, nat_le, nat_lt, Bool, true, List, length, drop, slice_index, if◌then◌else◌}
use Rattle.byteorder.specs.Endian.{big_number}
use Rattle.rtp_packet.specs.Fault.{extension_end}
use Rattle.rtp_packet.specs.Grammar.{RtpPacket, bytes_of, with_address}
use Rattle.shared_packet.specs.declared.packet.PacketParts.{PacketParts}
use Rattle.shared_packet.specs.Readdressed.{readdressed_bytes}

-- the padding bit is set
abbrev pub is_padded : List ℕ → Bool
is_padded d = (slice_index d 0 / 32 % 2) == 1

-- how many bytes at the end are padding, by the last of them
abbrev pub padding_of : List ℕ → ℕ
padding_of d = if is_padded d then slice_index d (length d - 1) else 0

-- The datagram is a packet: it is of version 2, and what its header announces stands in it. A padding has a byte at
-- least (RFC 3550, section 5.1).
unfoldable pub is_rtp : List ℕ → Bool
is_rtp d =
    nat_le 12 (length d) && ((slice_index d 0 / 64 == 2)
    && (nat_le (extension_end d + padding_of d) (length d)
    && (not (is_padded d) || nat_lt 0 (padding_of d))))

-- a packet's sequence number (RFC 3550, section 5.1)
unfoldable pub sequence_number : List ℕ → ℕ
sequence_number d = big_number 2 (drop 2 d)

-- the octets of a packet's payload, which stands between the extension and the padding (RFC 3550, section 5.1)
unfoldable pub payload_octets : List ℕ → ℕ
payload_octets d = if is_rtp d then length d - (extension_end d + padding_of d) else 0

-- these words say of the datagram what the packet has
pub record SaysAs (d : List ℕ) (p : RtpPacket) : Type 0 where
  pub is_packet : is_rtp d ≡ true
  pub number : sequence_number d ≡ p.sequence_number
  pub octets : payload_octets d ≡ length p.payload
  pub under : (ssrc number : ℕ)
      → readdressed_bytes ssrc number d ≡ bytes_of (with_address ssrc number p)

-- what a leg wants to know of the datagram, which is a packet (RFC 3550, section 5.1)
pub record IsReadAs (d : List ℕ) (r : PacketParts) : Type 0 where
  pub is_packet : is_rtp d ≡ true
  pub number : sequence_number d ≡ r.sequence_number
  pub octets : payload_octets d ≡ r.octets
