-- The datagram that says a value: so what is made of what was heard is said by what a client may send (RFC 3550, section 6;
-- RFC 4585, section 6; RFC 5104, section 4.2).
use Rattle.std.specs.Prelude.{◌≡◌, ℕ, ◌^◌, ◌<◌, List, [], ◌∷◌, ◌++◌, map, replicate, Option, None, Some, Result, Ok, Err, MatchResult}
use Rattle.std.specs.List.{flat_map}
use Rattle.rtcp_compound.specs.Grammar.{RtcpPacket, packet_bytes}
use Rattle.rtcp_compound.specs.Written.{bye_packet, plain_packet, rr_packet, sr_packet}
use Rattle.rtcp_compound.specs.declared.packet.TheConstants.{RTPFB, PSFB}
use Rattle.rtcp_feedback.specs.Grammar.{IsNack}
use Rattle.rtcp_feedback.specs.Writing.{nack_body, pli_body, tmmb_body}
use Rattle.datagram.specs.declared.reading.Ask.{Ask}
use Rattle.datagram.specs.declared.reading.Ask.TheVariants.{Rate, Resend, Picture}
use Rattle.datagram.specs.declared.reading.Control.{Control}
use Rattle.datagram.specs.declared.reading.What.{What}
use Rattle.datagram.specs.declared.reading.What.TheVariants.{Media, Goodbye, Control as Controls, Refused}
use Rattle.datagram.specs.Saying.{Says, media}

-- who speaks says so by a report without blocks: of a sender with these NTP and RTP timestamps, else of a receiver (RFC 3550,
-- sections 6.4.1 and 6.4.2)
abbrev pub speaking_packet : ℕ → Option (ℕ × ℕ) → RtcpPacket
speaking_packet speaker None = rr_packet speaker []
speaking_packet speaker (Some report) = sr_packet speaker report.0 report.1 0 0 []

-- a TMMBN without entries (RFC 5104, section 4.2.2)
abbrev pub notice_packet : ℕ → RtcpPacket
notice_packet speaker = plain_packet 4 RTPFB (tmmb_body speaker [])

-- a TMMBR or a NACK of one entry, or a PLI (RFC 5104, section 4.2.1; RFC 4585, sections 6.2.1 and 6.3.1)
abbrev pub ask_packet : ℕ → Ask → RtcpPacket
ask_packet speaker (Rate source word) =
    plain_packet 3 RTPFB (tmmb_body speaker (record { ssrc = source; word = word } ∷ []))
ask_packet speaker (Resend source nack) =
    plain_packet 1 RTPFB (nack_body speaker source.0 (nack ∷ []))
ask_packet speaker (Picture source) = plain_packet 1 PSFB (pli_body speaker source.0)

-- a report first (RFC 3550, sections 6.1 and 6.4), then each TMMBN, then a packet for each ask
-- (RFC 4585, sections 6.2.1 and 6.3.1; RFC 5104, section 4.2)
abbrev pub control_packets : Control → List Ask → List RtcpPacket
control_packets c asks =
    speaking_packet c.speaker.0 c.report
    ∷ (replicate c.tmmbns (notice_packet c.speaker.0) ++ map (ask_packet c.speaker.0) asks)

-- the datagram of a value: media and what is refused as they came, a goodbye of the own source alone (RFC 3550, section 6.6), else these packets
unfoldable pub spelling : ℕ → What → List Ask → List ℕ → List ℕ
spelling own (Media packet) asks came = came
spelling own Goodbye asks came = packet_bytes (bye_packet (own ∷ []))
spelling own (Controls c) asks came = flat_map packet_bytes (control_packets c asks)
spelling own (Refused refusal) asks came = came

-- A value as it is read, or made of that: a packet is what these bytes say, and so is a refusal; and with neither, nor with a goodbye, is anything
-- asked for.
abbrev pub IsAsHeard : ℕ → What → List Ask → List ℕ → Type 0
IsAsHeard own (Media packet) asks came = (asks ≡ [])
    × Says own came (Ok (media packet.ssrc.0 packet.parts.sequence_number packet.timestamp
    packet.parts.octets))
IsAsHeard own Goodbye asks came = asks ≡ []
IsAsHeard own (Controls c) asks came = Unit {0}
IsAsHeard own (Refused refusal) asks came = (asks ≡ []) × Says own came (Err refusal)

-- each number of what is asked for is within its field
abbrev pub IsAskInRange : Ask → Type 0
IsAskInRange (Rate source word) = (source.0 < 2 ^ 32) × (word < 2 ^ 32)
IsAskInRange (Resend source nack) = (source.0 < 2 ^ 32) × IsNack nack
IsAskInRange (Picture source) = source.0 < 2 ^ 32

abbrev pub IsReportInRange : Option (ℕ × ℕ) → Type 0
IsReportInRange None = Unit {0}
IsReportInRange (Some report) = (report.0 < 2 ^ 64) × (report.1 < 2 ^ 32)

-- each number of what RTCP says is within its field; media and what is refused are the bytes that came
abbrev pub IsHeardInRange : ℕ → What → Type 0
IsHeardInRange own (Media packet) = Unit {0}
IsHeardInRange own Goodbye = own < 2 ^ 32
IsHeardInRange own (Controls c) = (c.speaker.0 < 2 ^ 32) × IsReportInRange c.report
IsHeardInRange own (Refused refusal) = Unit {0}

-- a call appends these bytes, or some bytes if memory is wanted
abbrev pub PutsBytes : {E : Type 0} → List ℕ → List ℕ → List ℕ → Result (Unit {0}) E → Type 0
PutsBytes before after bytes r =
    MatchResult r (λ _. after ≡ before ++ bytes) (λ _. (some : List ℕ) × (after ≡ before ++ some))
