-- A packet that was read has the number and the octets of the datagram.
use Rattle.std.proofs.Common.{◌≡◌, ◌∙◌, ◌==◌, ℕ, ⊎_elim, List, Bool, true, false, Ok, sym, ap, subst}
use Rattle.std.proofs.lemmas.Bool.{cases_Bool}
use Rattle.std.specs.Prelude.{if◌then◌else◌}
use Rattle.std.specs.List.{list_any}
use Rattle.rtcp_compound.specs.Mux.{is_rtcp}
use Rattle.shared_packet.specs.Rtp.{IsReadAs}
use Rattle.shared_packet.proofs.RtpLemmas.{reads_rtp, number_read, payload_read}
use Rattle.datagram.specs.declared.reading.Ask.{Ask}
use Rattle.datagram.specs.declared.reading.Media.{Media as Packet}
use Rattle.datagram.specs.declared.reading.What.{What}
use Rattle.datagram.specs.declared.reading.What.TheVariants.{Media, Goodbye, Control, Refused}
use Rattle.datagram.specs.Reads.{IsPacketRead, ReadsBy, what_of}
use Rattle.datagram.specs.Saying.{Said, Says, SaysRtp, media, leaves, control, speaker_of}

-- ---- what is said of a packet

abbrev packet_in : What → ℕ × ℕ × ℕ × ℕ
packet_in (Media m) = (m.ssrc.0, m.parts.sequence_number, m.timestamp, m.parts.octets)
packet_in Goodbye = (0, 0, 0, 0)
packet_in (Control c) = (0, 0, 0, 0)
packet_in (Refused refusal) = (0, 0, 0, 0)

-- a packet says what it is
pub media_said : (m : Packet) (said : Said) → Media m ≡ what_of said
    → said ≡ media m.ssrc.0 m.parts.sequence_number m.timestamp m.parts.octets
media_said m (media s q p n) e = sym (ap (λ (x : ℕ × ℕ × ℕ × ℕ). media x.0 x.1 x.2 x.3) (ap packet_in e))
media_said m leaves e = absurd (cc)
media_said m (control speaker said_reports tmmbns asks) e = absurd (cc)

-- ---- what is read of a packet

-- no RTCP says a packet
no_packet_said : (b : Bool) (s q p n speaker : ℕ) (reports : List (ℕ × ℕ)) (tmmbns : ℕ) (asks : List Ask)
    → media s q p n ≡ (if b then leaves else control speaker reports tmmbns asks) → ⊥
no_packet_said true s q p n speaker reports tmmbns asks e = absurd (cc)
no_packet_said false s q p n speaker reports tmmbns asks e = absurd (cc)

abbrev said_parts : Said → ℕ × ℕ
said_parts (media s q p n) = (q, n)
said_parts leaves = (0, 0)
said_parts (control speaker reports tmmbns asks) = (0, 0)

packet_read : (d : List ℕ) (s q p n : ℕ) → SaysRtp d (Ok (media s q p n)) → IsReadAs d (record { sequence_number = q; octets = n })
packet_read d s q p n (packet, reads, is) = record {
  is_packet = reads_rtp d packet reads;
  number = number_read d packet reads ∙ sym (ap (λ (x : Said). (said_parts x).0) is);
  octets = payload_read d packet reads ∙ sym (ap (λ (x : Said). (said_parts x).1) is);
}

says_read : (own : ℕ) (d : List ℕ) (s q p n : ℕ) → Says own d (Ok (media s q p n)) → IsReadAs d (record { sequence_number = q; octets = n })
says_read own d s q p n (rtcp, rtp) =
    ⊎_elim
    (λ (is : is_rtcp d ≡ true).
    let said = rtcp is in
    absurd (no_packet_said (list_any (λ x. x == own) said.0.goodbyes) s q p n (speaker_of own said.0.senders) said.0.reports said.0.tmmbns
    said.0.asks said.2))
    (λ (unlike : is_rtcp d ≡ false). packet_read d s q p n (rtp unlike))
    (cases_Bool (is_rtcp d))

pub packet_was_read : (own : ℕ) (d : List ℕ) (asks : List Ask) (what : What) → ReadsBy (Says own d) asks what → IsPacketRead d what
packet_was_read own d asks (Media m) (said, says, is, more) =
    says_read own d m.ssrc.0 m.parts.sequence_number m.timestamp m.parts.octets
    (subst (λ (x : Said). Says own d (Ok x)) (media_said m said is) says)
packet_was_read own d asks Goodbye reads = tt
packet_was_read own d asks (Control c) reads = tt
packet_was_read own d asks (Refused refusal) reads = tt
