-- What the fixed header of a datagram says (RFC 3550, section 5.1).
use Rattle.std.specs.Prelude.{◌≡◌, ℕ, ◌+◌, ◌*◌, ◌^◌, ◌<◌, ◌≤◌, List, length, drop, slice_index}
use Rattle.byteorder.specs.Endian.{big_number}
use Rattle.rtp_packet.specs.declared.header.Header.{Header}
use Rattle.rtp_packet.specs.Grammar.{bit_of}

-- the datagram begins with this header, of version 2
pub record IsHeaderOf (datagram : List ℕ) (h : Header) : Type 0 where
  pub whole : 12 ≤ length datagram
  pub first : slice_index datagram 0
      ≡ 2 * 64 + 32 * bit_of h.padding + 16 * bit_of h.extension + h.csrc_count
  pub csrc_count : h.csrc_count < 16
  pub second : slice_index datagram 1 ≡ 128 * bit_of h.marker + h.payload_type
  pub payload_type : h.payload_type < 128
  pub sequence_number : h.sequence_number ≡ big_number 2 (drop 2 datagram)
  pub sequence_number_fits : h.sequence_number < 2 ^ 16
  pub timestamp : h.timestamp ≡ big_number 4 (drop 4 datagram)
  pub timestamp_fits : h.timestamp < 2 ^ 32
  pub ssrc : h.ssrc.0 ≡ big_number 4 (drop 8 datagram)
  pub ssrc_fits : h.ssrc.0 < 2 ^ 32
