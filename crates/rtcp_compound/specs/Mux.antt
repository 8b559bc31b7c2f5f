-- RTCP told from RTP, where both come to one port (RFC 5761, section 4).
use Rattle.std.specs.Prelude.{◌&&◌, nat_lt, nat_le, ℕ, Bool, List, length, slice_index}

-- a datagram is RTCP, where both come to one port: its second byte is a packet type of RTCP (RFC 5761, section 4)
abbrev pub is_rtcp : List ℕ → Bool
is_rtcp datagram =
    nat_lt 1 (length datagram)
    && (nat_le 192 (slice_index datagram 1) && nat_le (slice_index datagram 1) 223)
