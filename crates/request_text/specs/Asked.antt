-- What a datagram asks of one media sender (RFC 3550, sections 6.1 and 6.6; RFC 4585, section 6.1; RFC 5104, section
-- 4.2.1), by the grammars of RTCP datagrams and of feedback.
use Rattle.std.specs.Prelude.{◌≡◌, ◌==◌, ◌⊎◌, ◌<◌, ℕ, List, [], ◌∷◌, ◌++◌, length, map, filter, Result, Ok, Err}
use Rattle.rtcp_compound.specs.Content.{Content, packet_content, sender_report, receiver_report, description, goodbye, feedback, other}
use Rattle.rtcp_compound.specs.Grammar.{RtcpPacket, ReadsRtcp}
use Rattle.rtcp_compound.specs.Fault.{Refuses}
use Rattle.rtcp_feedback.specs.declared.fault.FbFault.{FbFault}
use Rattle.rtcp_feedback.specs.declared.fault.FbFault.TheVariants.{Short, OddFci}
use Rattle.rtcp_feedback.specs.declared.tmmb.TmmbrEntry.{TmmbrEntry}
use Rattle.rtcp_feedback.specs.Fault.{HasOddFci}
use Rattle.rtcp_feedback.specs.Grammar.{Message, ReadsFeedback, nack, pli, tmmbr, tmmbn, unknown}
use Rattle.request_text.specs.declared.fault.LineFault.{LineFault}
use Rattle.request_text.specs.declared.fault.LineFault.TheVariants.{Hex, Rtcp, Feedback as FeedbackFault, Full, Text}

-- an owner asks for a word, or leaves, and its request with it
pub data Change : Type 0 where
  asks : ℕ → ℕ → Change
  leaves : ℕ → Change

-- the entries of a TMMBR that ask the media sender, for the sender of the packet
abbrev pub requests_of : ℕ → ℕ → List TmmbrEntry → List Change
requests_of media owner entries =
    map (λ e. asks owner e.word) (filter (λ e. e.ssrc.0 == media) entries)

-- a TMMBR alone asks for something
abbrev pub changes_of : ℕ → Message → List Change
changes_of media (nack sender source entries) = []
changes_of media (pli sender source) = []
changes_of media (tmmbr sender entries) = requests_of media sender entries
changes_of media (tmmbn sender entries) = []
changes_of media (unknown sender) = []

-- what a packet asks for: each source of a BYE leaves (RFC 3550, section 6.6), and feedback asks for what it
-- says (RFC 5104, section 4.2.1)
abbrev pub Asks : ℕ → Content → List Change → Type 0
Asks media (sender_report sender ntp rtp packets octets blocks) changes = changes ≡ []
Asks media (receiver_report sender blocks) changes = changes ≡ []
Asks media (description count chunks) changes = changes ≡ []
Asks media (goodbye sources) changes = changes ≡ map leaves sources
Asks media (feedback fmt kind body) changes =
    (m : Message) × ReadsFeedback fmt kind body m × (changes ≡ changes_of media m)
Asks media (other count kind body) changes = changes ≡ []

-- packets ask one after the other
abbrev pub AskTogether : ℕ → List Content → List Change → Type 0
AskTogether media [] changes = changes ≡ []
AskTogether media (c ∷ cs) changes =
    (first : List Change) × (others : List Change) × Asks media c first
    × AskTogether media cs others × (changes ≡ first ++ others)

-- feedback that says something, or another packet
abbrev pub IsReadable : Content → Type 0
IsReadable (sender_report sender ntp rtp packets octets blocks) = Unit {0}
IsReadable (receiver_report sender blocks) = Unit {0}
IsReadable (description count chunks) = Unit {0}
IsReadable (goodbye sources) = Unit {0}
IsReadable (feedback fmt kind body) = (m : Message) × ReadsFeedback fmt kind body m
IsReadable (other count kind body) = Unit {0}

-- feedback with this fault
abbrev pub IsCause : ℕ → ℕ → List ℕ → FbFault → Type 0
IsCause fmt kind body Short = length body < 8
IsCause fmt kind body OddFci = HasOddFci fmt kind body

abbrev pub HasAskFault : Content → FbFault → Type 0
HasAskFault (sender_report sender ntp rtp packets octets blocks) fault = ⊥
HasAskFault (receiver_report sender blocks) fault = ⊥
HasAskFault (description count chunks) fault = ⊥
HasAskFault (goodbye sources) fault = ⊥
HasAskFault (feedback fmt kind body) fault = IsCause fmt kind body fault
HasAskFault (other count kind body) fault = ⊥

-- the first of the packets that can't be read has this fault
abbrev pub FailsFirst : List Content → FbFault → Type 0
FailsFirst [] fault = ⊥
FailsFirst (c ∷ cs) fault = HasAskFault c fault ⊎ (IsReadable c × FailsFirst cs fault)

-- The datagram joins packets that ask for this (RFC 5104, section 4.2.1; RFC 3550, section 6.6).
pub record AsksFor (media : ℕ) (datagram : List ℕ) (changes : List Change) : Type 0 where
  pub packets : List RtcpPacket
  pub joined : ReadsRtcp datagram packets
  pub asked : AskTogether media (map packet_content packets) changes

-- The datagram joins packets, and the first feedback of them that can't be read has this fault.
pub record FailsBy (datagram : List ℕ) (fault : FbFault) : Type 0 where
  pub packets : List RtcpPacket
  pub joined : ReadsRtcp datagram packets
  pub first : FailsFirst (map packet_content packets) fault

-- what a datagram asks for, or its first fault: all its feedback is read before the first of it is done
abbrev pub DatagramAsks : ℕ → List ℕ → Result (List Change) LineFault → Type 0
DatagramAsks media datagram (Ok changes) = AsksFor media datagram changes
DatagramAsks media datagram (Err (Rtcp fault)) = Refuses datagram fault
DatagramAsks media datagram (Err (FeedbackFault fault)) = FailsBy datagram fault
DatagramAsks media datagram (Err Hex) = ⊥
DatagramAsks media datagram (Err Full) = ⊥
DatagramAsks media datagram (Err Text) = ⊥
