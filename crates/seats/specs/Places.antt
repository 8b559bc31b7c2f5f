-- Where the names of a client stand in RTCP packets, and what becomes of them there.
use Rattle.std.specs.Prelude.{◌==◌, ◌&&◌, ◌||◌, ◌-◌, ◌/◌, ℕ, zero, suc, min, List, ◌++◌, length, take, drop, if◌then◌else◌}
use Rattle.byteorder.specs.Endian.{big_bytes, big_number}
use Rattle.rtcp_compound.specs.Grammar.{RtcpPacket}
use Rattle.rtcp_compound.specs.declared.packet.TheConstants.{SR, RR, BYE, RTPFB, PSFB}
use Rattle.rtcp_compound.specs.declared.sizes.TheConstants.{SOURCE_BYTES, SENDER_BYTES, BLOCK_BYTES}
use Rattle.seats.specs.Names.{asks_as, leaves_as, renamed, sends_as}
use Rattle.seats.specs.declared.names.Names.{Names}
use Rattle.seats.specs.declared.names.Renaming.{Renaming}
use Rattle.seats.specs.declared.names.Renaming.TheVariants.{Exchange, Put}
use Rattle.seats.specs.declared.places.Places.{Places}

-- so many entries of this size, from there on
abbrev pub places_at : Renaming → ℕ → ℕ → ℕ → Places
places_at by from size count = record { by = by; from = from; size = size; count = count }

-- The names of its client in what is told to it, by a packet's type, its count or FMT, and how long its body is. The sources of report blocks
-- (RFC 3550, section 6.4), the media source of a PLI (RFC 4585, section 6.3.1) and the entries of a TMMBR (RFC 5104, section 4.2.1.1) name who sends;
-- those of a TMMBN (RFC 5104, section 4.2.2.1) who asked.
abbrev pub told_places : Names → ℕ → ℕ → ℕ → Places
told_places n kind count size =
    if kind == SR then places_at (Exchange n.seat (sends_as n)) SENDER_BYTES BLOCK_BYTES count
    else if kind == RR then places_at (Exchange n.seat (sends_as n)) SOURCE_BYTES BLOCK_BYTES count
    else if (kind == PSFB) && (count == 1)
    then places_at (Exchange n.seat (sends_as n)) 4 4 (min ((size - 4) / 4) 1)
    else if (kind == RTPFB) && (count == 3)
    then places_at (Exchange n.seat (sends_as n)) 8 8 ((size - 8) / 8)
    else if (kind == RTPFB) && (count == 4)
    then places_at (Exchange n.seat (asks_as n)) 8 8 ((size - 8) / 8)
    else places_at (Exchange n.seat (sends_as n)) 0 4 0

-- The names of who sent what came: the sender of a sender report and the sources of a BYE are the seat's if they are the client's (RFC 3550, sections
-- 6.4.1 and 6.6), the sender of a receiver report or of feedback (RFC 3550, section 6.4.2; RFC 4585, section 6.1) is the seat whoever it is.
abbrev pub heard_places : Names → ℕ → ℕ → ℕ → Places
heard_places n kind count size =
    if kind == SR then places_at (Exchange n.seat (sends_as n)) 0 4 1
    else if kind == RR then places_at (Put n.seat) 0 4 1
    else if kind == BYE then places_at (Exchange n.seat (leaves_as n)) 0 4 count
    else if (kind == RTPFB) || (kind == PSFB) then places_at (Put n.seat) 0 4 (min (size / 4) 1)
    else places_at (Exchange n.seat (sends_as n)) 0 4 0

-- ---- what becomes of them

-- these bytes, with another name at their front
abbrev pub word_as : (ℕ → ℕ) → List ℕ → List ℕ
word_as f bytes = big_bytes 4 (f (big_number 4 bytes)) ++ drop 4 bytes

-- so many entries of this size, each with another name at its front, and what is behind them as it was
abbrev pub entries_as : (ℕ → ℕ) → ℕ → ℕ → List ℕ → List ℕ
entries_as f size zero bytes = bytes
entries_as f size (suc n) bytes = word_as f (take size bytes) ++ entries_as f size n (drop size bytes)

abbrev pub body_as : Places → List ℕ → List ℕ
body_as p body = take p.from body ++ entries_as (renamed p.by) p.size p.count (drop p.from body)

-- a packet, as a client with these names is told it
abbrev pub told_packet : Names → RtcpPacket → RtcpPacket
told_packet n p = record p { body = body_as (told_places n p.kind p.count (length p.body)) p.body }

-- a packet that such a client sent, as it is heard
abbrev pub heard_packet : Names → RtcpPacket → RtcpPacket
heard_packet n p = record p { body = body_as (heard_places n p.kind p.count (length p.body)) p.body }
