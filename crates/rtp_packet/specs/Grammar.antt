-- RTP packets (RFC 3550, sections 5.1 and 5.3.1): a packet as a tree, its bytes, and which trees are packets.
use Rattle.std.specs.Prelude.{◌≡◌, ℕ, ◌+◌, ◌-◌, ◌*◌, ◌/◌, ◌%◌, ◌^◌, ◌<◌, ◌≤◌, Bool, nat_lt, if◌then◌else◌, List, ◌∷◌, ◌++◌, length, drop, slice_index}
use Rattle.byteorder.specs.Endian.{big_bytes, big_number}

-- a packet of version 2: its numbers, and the bytes of its parts (RFC 3550, sections 5.1 and 5.3.1)
pub record RtpPacket : Type 0 where
  pub marker : Bool
  pub payload_type : ℕ
  pub sequence_number : ℕ
  pub timestamp : ℕ
  pub ssrc : ℕ
  pub csrcs : List ℕ
  pub extension : List ℕ
  pub payload : List ℕ
  pub padding : List ℕ

abbrev pub bit_of : Bool → ℕ
bit_of b = if b then 1 else 0

-- a part that may be left out has bytes
abbrev pub is_there : List ℕ → Bool
is_there part = nat_lt 0 (length part)

-- the first byte: the version 2 in two bits, a bit for padding, a bit for an extension, the count of CSRCs in four
abbrev pub first_byte : RtpPacket → ℕ
first_byte p = 2 * 64 + 32 * bit_of (is_there p.padding) + 16
    * bit_of (is_there p.extension) + length p.csrcs / 4

-- the second byte: the marker bit, and the payload type in seven bits
abbrev pub second_byte : RtpPacket → ℕ
second_byte p = 128 * bit_of p.marker + p.payload_type

-- twelve bytes: two, the sequence number in two, the timestamp and the SSRC in four each
unfoldable pub fixed_bytes : ℕ → ℕ → ℕ → ℕ → ℕ → List ℕ
fixed_bytes first second sequence_number timestamp ssrc =
    first ∷ second ∷ (big_bytes 2 sequence_number ++ (big_bytes 4 timestamp ++ big_bytes 4 ssrc))

-- what follows the fixed header
abbrev pub body_bytes : RtpPacket → List ℕ
body_bytes p = p.csrcs ++ (p.extension ++ (p.payload ++ p.padding))

abbrev pub bytes_of : RtpPacket → List ℕ
bytes_of p =
    fixed_bytes (first_byte p) (second_byte p) p.sequence_number p.timestamp p.ssrc ++ body_bytes p

-- if there is an extension, it is two bytes that the profile defines, a count of words in two, and so many words
abbrev pub IsExtension : List ℕ → Type 0
IsExtension e =
    0 < length e → (4 ≤ length e) × (length e ≡ 4 + 4 * big_number 2 (drop 2 e))

-- if there is padding, its last byte counts its bytes
abbrev pub IsPadding : List ℕ → Type 0
IsPadding padding = slice_index padding (length padding - 1) ≡ length padding

-- each number fits its bits, and the parts are whole words (RFC 3550, sections 5.1 and 5.3.1)
pub record IsPacket (p : RtpPacket) : Type 0 where
  pub payload_type : p.payload_type < 128
  pub sequence_number : p.sequence_number < 2 ^ 16
  pub timestamp : p.timestamp < 2 ^ 32
  pub ssrc : p.ssrc < 2 ^ 32
  pub csrcs_whole : length p.csrcs % 4 ≡ 0
  pub csrcs_count : length p.csrcs / 4 < 16
  pub extension : IsExtension p.extension
  pub padding : IsPadding p.padding

-- the datagram is the bytes of this packet (RFC 3550, sections 5.1 and 5.3.1)
pub record ReadsRtp (datagram : List ℕ) (p : RtpPacket) : Type 0 where
  pub valid : IsPacket p
  pub bytes : datagram ≡ bytes_of p

-- the packet under another SSRC and sequence number
abbrev pub with_address : ℕ → ℕ → RtpPacket → RtpPacket
with_address ssrc sequence_number p = record p { ssrc = ssrc; sequence_number = sequence_number }
