-- What a datagram of an endpoint says (RFC 3550, sections 5.1, 6.1 and 6.6; RFC 4585, sections 6.1 to 6.3; RFC 5104,
-- section 4.2), by the grammars of RTP packets, of RTCP datagrams and of feedback.
use Rattle.std.specs.Prelude.{◌≡◌, ◌==◌, ◌⊎◌, ◌<◌, ℕ, ◌+◌, not, true, false, unwrap_or, List, [], ◌∷◌, ◌++◌, length, map, fold, Result, Ok, Err, if◌then◌else◌}
use Rattle.std.specs.List.{find, list_any}
use Rattle.members.specs.Room.{RoomState, after_report}
use Rattle.rtp_packet.specs.Fault.{HasRtpFault}
use Rattle.rtp_packet.specs.Grammar.{RtpPacket, ReadsRtp}
use Rattle.rtcp_compound.specs.Content.{Content, packet_content, sender_report, receiver_report, description, goodbye, feedback, other}
use Rattle.rtcp_compound.specs.Fault.{Refuses}
use Rattle.rtcp_compound.specs.Grammar.{RtcpPacket, ReadsRtcp}
use Rattle.rtcp_compound.specs.Mux.{is_rtcp}
use Rattle.rtcp_feedback.specs.declared.fault.FbFault.{FbFault}
use Rattle.rtcp_feedback.specs.declared.fault.FbFault.TheVariants.{Short, OddFci}
use Rattle.rtcp_feedback.specs.Fault.{HasOddFci}
use Rattle.rtcp_feedback.specs.Grammar.{Message, ReadsFeedback, nack, pli, tmmbr, tmmbn, unknown}
use Rattle.datagram.specs.declared.reading.Ask.{Ask}
use Rattle.datagram.specs.declared.reading.Ask.TheVariants.{Rate, Resend, Picture}
use Rattle.events.specs.declared.output.Refusal.{Refusal}
use Rattle.events.specs.declared.output.Refusal.TheVariants.{Rtp, Rtcp, Feedback, Room, Desk}

-- What RTCP packets say, in the order of packets and entries: who sent the reports and the feedback, and who the sender reports, which
-- sources leave, the NTP and RTP timestamps of the sender reports, how many TMMBNs there are, and what is asked for.
pub record Gist : Type 0 where
  pub senders : List ℕ
  pub clocks : List ℕ
  pub goodbyes : List ℕ
  pub reports : List (ℕ × ℕ)
  pub tmmbns : ℕ
  pub asks : List Ask

abbrev pub empty_gist : Gist
empty_gist = record { senders = []; clocks = []; goodbyes = []; reports = []; tmmbns = 0; asks = [] }

-- a sender, and no more
abbrev pub sent_by : ℕ → Gist
sent_by sender = record empty_gist { senders = sender ∷ [] }

-- a sender report of this sender with these timestamps
abbrev pub clocked_by : ℕ → ℕ × ℕ → Gist
clocked_by sender report = record (sent_by sender) { clocks = sender ∷ []; reports = report ∷ [] }

-- the one, then the other
abbrev pub joint_gist : Gist → Gist → Gist
joint_gist a b = record {
  senders = a.senders ++ b.senders;
  clocks = a.clocks ++ b.clocks;
  goodbyes = a.goodbyes ++ b.goodbyes;
  reports = a.reports ++ b.reports;
  tmmbns = a.tmmbns + b.tmmbns;
  asks = a.asks ++ b.asks;
}

-- Each entry of a NACK asks for packets of the packet's media source, each entry of a TMMBR its own media source for a
-- rate, and a PLI its media source for a picture.
abbrev pub gist_of : Message → Gist
gist_of (nack sender media entries) =
    record (sent_by sender) { asks = map (λ n. Resend (record { 0 = media }) n) entries }
gist_of (pli sender media) = record (sent_by sender) { asks = Picture (record { 0 = media }) ∷ [] }
gist_of (tmmbr sender entries) =
    record (sent_by sender) { asks = map (λ e. Rate e.ssrc e.word) entries }
gist_of (tmmbn sender entries) = record (sent_by sender) { tmmbns = 1 }
gist_of (unknown sender) = sent_by sender

-- what a feedback packet says, or its fault
abbrev pub FeedbackSays : ℕ → ℕ → List ℕ → Result Gist FbFault → Type 0
FeedbackSays fmt kind body (Ok gist) =
    (m : Message) × ReadsFeedback fmt kind body m × (gist ≡ gist_of m)
FeedbackSays fmt kind body (Err Short) = length body < 8
FeedbackSays fmt kind body (Err OddFci) = HasOddFci fmt kind body

-- what a packet says, or its fault; nobody looks at blocks, descriptions and packets of other types
abbrev pub PacketSays : Content → Result Gist FbFault → Type 0
PacketSays (sender_report sender ntp rtp packets octets blocks) said =
    said ≡ Ok (clocked_by sender (ntp, rtp))
PacketSays (receiver_report sender blocks) said = said ≡ Ok (sent_by sender)
PacketSays (description count chunks) said = said ≡ Ok empty_gist
PacketSays (goodbye sources) said = said ≡ Ok (record empty_gist { goodbyes = sources })
PacketSays (feedback fmt kind body) said = FeedbackSays fmt kind body said
PacketSays (other count kind body) said = said ≡ Ok empty_gist

-- what packets say together, or the fault of the first of them that can't be read
abbrev pub PacketsSay : List Content → Result Gist FbFault → Type 0
PacketsSay [] said = said ≡ Ok empty_gist
PacketsSay (c ∷ cs) (Ok gist) =
    (first : Gist) × (others : Gist) × PacketSays c (Ok first) × PacketsSay cs (Ok others)
    × (gist ≡ joint_gist first others)
PacketsSay (c ∷ cs) (Err fault) = PacketSays c (Err fault)
    ⊎ ((first : Gist) × PacketSays c (Ok first) × PacketsSay cs (Err fault))

-- What a datagram of an endpoint says: the source, the sequence number and the timestamp of an RTP packet, and how many octets its
-- payload has; that the endpoint leaves, and then nothing else; or who speaks, the timestamps of the sender reports, the number of TMMBNs and
-- what is asked for.
pub data Said : Type 0 where
  media : ℕ → ℕ → ℕ → ℕ → Said
  leaves : Said
  control : ℕ → List (ℕ × ℕ) → ℕ → List Ask → Said

-- the first of the senders that isn't the endpoint's own source, else that
abbrev pub speaker_of : ℕ → List ℕ → ℕ
speaker_of own senders = unwrap_or (find (λ s. not (s == own)) senders) own

abbrev pub said_by : ℕ → Gist → Said
said_by own g =
    if list_any (λ s. s == own) g.goodbyes then leaves
    else control (speaker_of own g.senders) g.reports g.tmmbns g.asks

-- The datagram joins packets, which say this together.
pub record JoinsPackets (datagram : List ℕ) (said : Result Gist FbFault) : Type 0 where
  pub packets : List RtcpPacket
  pub joins : ReadsRtcp datagram packets
  pub say : PacketsSay (map packet_content packets) said

abbrev pub SaysRtcp : ℕ → List ℕ → Result Said Refusal → Type 0
SaysRtcp own datagram (Ok said) =
    (gist : Gist) × JoinsPackets datagram (Ok gist) × (said ≡ said_by own gist)
SaysRtcp own datagram (Err (Rtp fault)) = ⊥
SaysRtcp own datagram (Err (Rtcp fault)) = Refuses datagram fault
SaysRtcp own datagram (Err (Feedback fault)) = JoinsPackets datagram (Err fault)
SaysRtcp own datagram (Err (Room fault)) = ⊥
SaysRtcp own datagram (Err (Desk fault)) = ⊥

abbrev pub SaysRtp : List ℕ → Result Said Refusal → Type 0
SaysRtp datagram (Ok said) =
    (p : RtpPacket) × ReadsRtp datagram p
    × (said ≡ media p.ssrc p.sequence_number p.timestamp (length p.payload))
SaysRtp datagram (Err (Rtp fault)) = HasRtpFault datagram fault
SaysRtp datagram (Err (Rtcp fault)) = ⊥
SaysRtp datagram (Err (Feedback fault)) = ⊥
SaysRtp datagram (Err (Room fault)) = ⊥
SaysRtp datagram (Err (Desk fault)) = ⊥

-- what a datagram of the endpoint whose own source this is says, or why it is refused (RFC 3550, section 6;
-- RFC 4585, section 6; RFC 5104, section 4.2)
abbrev pub Says : ℕ → List ℕ → Result Said Refusal → Type 0
Says own datagram said =
    (is_rtcp datagram ≡ true → SaysRtcp own datagram said)
    × (is_rtcp datagram ≡ false → SaysRtp datagram said)

-- the room once sender reports of the endpoint with these timestamps came at its moment
abbrev pub after_reports : RoomState → ℕ → List (ℕ × ℕ) → RoomState
after_reports room endpoint reports =
    fold (λ r report. after_report r endpoint report.0 report.1) room reports
