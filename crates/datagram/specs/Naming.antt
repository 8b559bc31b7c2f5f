-- Which source a datagram names.
use Rattle.std.specs.Prelude.{ℕ, ◌+◌, nat_lt, List, Option, None, Some, length, drop, min, if◌then◌else◌}
use Rattle.byteorder.specs.Endian.{big_number}
use Rattle.rtcp_compound.specs.Fault.{size_of}
use Rattle.rtcp_compound.specs.Mux.{is_rtcp}

-- the number in the four bytes from here on, if they are there
abbrev pub number_at : ℕ → List ℕ → Option ℕ
number_at place bytes =
    if nat_lt (length bytes) (place + 4) then None else Some (big_number 4 (drop place bytes))

-- how many bytes the first packet has, by its header (RFC 3550, section 6.4.1); no more than there are
abbrev pub heard_size : List ℕ → ℕ
heard_size datagram =
    if nat_lt (length datagram) 4 then length datagram else min (size_of datagram) (length datagram)

-- of RTP the SSRC (RFC 3550, section 5.1); of RTCP the word after the header of its first packet, if it has one
abbrev pub source_named : List ℕ → Option ℕ
source_named datagram =
    if is_rtcp datagram
    then (if nat_lt (heard_size datagram) 8 then None else number_at 4 datagram)
    else number_at 8 datagram
