-- How what is read of a datagram meets what the datagram says.
use Rattle.std.specs.Prelude.{◌≡◌, ◌==◌, ◌<◌, ℕ, ◌-◌, ◌^◌, min, nat_le, Bool, false, Option, None, Some, List, [], ◌++◌, length, take, Result, Ok, Err, MatchResult}
use Rattle.std.specs.List.{last_or, list_any}
use Rattle.std.specs.declared.alloc.AllocError.{AllocError}
use Rattle.rtcp_compound.specs.Content.{Content}
use Rattle.rtcp_feedback.specs.declared.fault.FbFault.{FbFault}
use Rattle.rtp_packet.specs.declared.fault.RtpFault.TheVariants.{Short}
use Rattle.shared_packet.specs.Rtp.{IsReadAs}
use Rattle.datagram.specs.declared.reading.Ask.{Ask}
use Rattle.datagram.specs.declared.reading.What.{What}
use Rattle.datagram.specs.declared.reading.What.TheVariants.{Media, Goodbye, Control, Refused}
use Rattle.datagram.specs.declared.reading.Taking.{Taking}
use Rattle.datagram.specs.declared.reading.Reading.{Reading}
use Rattle.datagram.specs.declared.reader.Heard.{Heard}
use Rattle.datagram.specs.declared.survey.Survey.{Survey}
use Rattle.events.specs.declared.output.Refusal.{Refusal}
use Rattle.events.specs.declared.output.Refusal.TheVariants.{Rtp, Feedback}
use Rattle.datagram.specs.Saying.{Gist, PacketsSay, Said, Says, media, leaves, control, said_by, speaker_of}

-- what is said, but for what is asked for; of the sender reports the last
abbrev pub what_of : Said → What
what_of (media source number timestamp octets) =
    Media (record {
      ssrc = record { 0 = source };
      timestamp = timestamp;
      parts = record { sequence_number = number; octets = octets };
    })
what_of leaves = Goodbye
what_of (control speaker reports tmmbns asks) =
    Control (record {
      speaker = record { 0 = speaker };
      report = last_or None reports;
      tmmbns = tmmbns;
    })

abbrev pub asks_of : Said → List Ask
asks_of (media source number timestamp octets) = []
asks_of leaves = []
asks_of (control speaker reports tmmbns asks) = asks

-- this was read of what says something, and that is asked for
abbrev pub ReadsSaid : (Result Said Refusal → Type 0) → List Ask → What → Type 0
ReadsSaid says asks what = (said : Said) × says (Ok said) × (what ≡ what_of said) × (asks ≡ asks_of said)

-- the same, also of what is refused; then nothing is asked for
abbrev pub ReadsBy : (Result Said Refusal → Type 0) → List Ask → What → Type 0
ReadsBy says asks (Media packet) = ReadsSaid says asks (Media packet)
ReadsBy says asks Goodbye = ReadsSaid says asks Goodbye
ReadsBy says asks (Control c) = ReadsSaid says asks (Control c)
ReadsBy says asks (Refused refusal) = says (Err refusal) × (asks ≡ [])

-- what was read of a datagram: what it says, and what it asks for (RFC 3550, section 6; RFC 4585, section 6; RFC 5104, section 4.2)
pub record WasRead : Type 0 where
  pub what : What
  pub asks : List Ask

-- The datagram, of the endpoint whose own source this is, says what was read (RFC 3550, section 6;
-- RFC 4585, section 6; RFC 5104, section 4.2).
abbrev pub IsSaidIn : ℕ → List ℕ → WasRead → Type 0
IsSaidIn own datagram r = ReadsBy (Says own datagram) r.asks r.what

abbrev pub was_read : Reading → WasRead
was_read r = record { what = r.what; asks = r.asks.items }

-- as of no bytes
pub record IsUnread (r : Reading) : Type 0 where
  pub read : was_read r ≡ record { what = Refused (Rtp Short); asks = [] }
  pub clocked : r.clocked.0 ≡ 0
  pub beyond : r.beyond ≡ 0

-- so many at most, the first; or all
abbrev pub first_asks : Option ℕ → List Ask → List Ask
first_asks None asks = asks
first_asks (Some most) asks = take most asks

-- how many there are beyond these, as far as 64 bits count
abbrev pub asks_beyond : Option ℕ → List Ask → ℕ
asks_beyond None asks = 0
asks_beyond (Some most) asks = min (length asks - most) (2 ^ 64 - 1)

-- The datagram, of the endpoint whose own source this is, says what was read, and asks for this, of which so much is listed, the first.
pub record IsReadUpTo (own : ℕ) (datagram : List ℕ) (most : Option ℕ) (r : Reading) : Type 0 where
  pub asks : List Ask
  pub says : IsSaidIn own datagram (record { what = r.what; asks = asks })
  pub listed : r.asks.items ≡ first_asks most asks
  pub beyond : r.beyond ≡ asks_beyond most asks

-- Who speaks if only sender reports say so (RFC 3550, section 6.4.1): the first of their senders that isn't the
-- endpoint's own source, else that.
abbrev pub IsClocked : ℕ → (Gist → Type 0) → What → ℕ → Type 0
IsClocked own says (Media packet) clocked = clocked ≡ own
IsClocked own says Goodbye clocked = (gist : Gist) × says gist × (clocked ≡ speaker_of own gist.clocks)
IsClocked own says (Control c) clocked =
    (gist : Gist) × says gist × (clocked ≡ speaker_of own gist.clocks)
IsClocked own says (Refused refusal) clocked = clocked ≡ own

-- it isn't refused, and asks for something that may be listed, which takes memory
abbrev pub AsksFor : ℕ → List ℕ → Option ℕ → Type 0
AsksFor own datagram most =
    (said : Said) × Says own datagram (Ok said) × (0 < length (first_asks most (asks_of said)))

-- a packet's number and octets are those of the bytes
abbrev pub IsPacketRead : List ℕ → What → Type 0
IsPacketRead bytes (Media packet) = IsReadAs bytes packet.parts
IsPacketRead bytes Goodbye = Unit {0}
IsPacketRead bytes (Control c) = Unit {0}
IsPacketRead bytes (Refused refusal) = Unit {0}

-- ---- what is taken in

-- what is taken in of an endpoint: what was read of a datagram of it, and the bytes of a packet
pub record Admission : Type 0 where
  pub endpoint : ℕ
  pub what : What
  pub asks : List Ask
  pub bytes : List ℕ

abbrev pub admission_of : Taking → Admission
admission_of t = record {
  endpoint = t.endpoint;
  what = t.what;
  asks = t.asks.now;
  bytes = t.bytes.now;
}

-- if it is a packet, these are its bytes
abbrev pub HasBytes : What → List ℕ → List ℕ → Type 0
HasBytes (Media packet) bytes datagram = datagram ≡ bytes
HasBytes Goodbye bytes datagram = Unit {0}
HasBytes (Control c) bytes datagram = Unit {0}
HasBytes (Refused refusal) bytes datagram = Unit {0}

-- A datagram of the endpoint, whose own source this is, says what is taken in; of a packet it is the one.
abbrev pub IsSaidBy : ℕ → Admission → List ℕ → Type 0
IsSaidBy own t datagram =
    IsSaidIn own datagram (record { what = t.what; asks = t.asks }) × HasBytes t.what t.bytes datagram

-- ---- the steps of a call that reads

-- of this so much is listed, the first, and the rest is counted
abbrev pub IsListed : Option ℕ → List Ask → Reading → Type 0
IsListed most asks r = (r.asks.items ≡ first_asks most asks) × (r.beyond ≡ asks_beyond most asks)

-- a call reads so, and lists what is asked for, or memory was wanting for that
abbrev pub ReadsOr : (Result Said Refusal → Type 0) → Option ℕ → Reading → Result Heard AllocError
    → Type 0
ReadsOr says most after r =
    MatchResult r (λ h. (asks : List Ask) × ReadsBy says asks h.what × IsListed most asks after)
    (λ _. (said : Said) × says (Ok said) × (0 < length (first_asks most (asks_of said))))

-- what the packets of a datagram say, or the fault of feedback
abbrev pub PacketsMean : ℕ → List Content → Result Said Refusal → Type 0
PacketsMean own cs said =
    MatchResult said (λ s. (gist : Gist) × PacketsSay cs (Ok gist) × (s ≡ said_by own gist))
    (λ refusal. (fault : FbFault) × PacketsSay cs (Err fault) × (refusal ≡ Feedback fault))

-- What is kept of this, but for what is asked for, of which is only known whether there may be some.
pub record IsSurveyOf (own : ℕ) (s : Survey) (g : Gist) : Type 0 where
  pub goodbye : s.goodbye ≡ list_any (λ x. x == own) g.goodbyes
  pub asking : s.asking ≡ false → g.asks ≡ []
  pub speaker : s.control.speaker.0 ≡ speaker_of own g.senders
  pub report : s.control.report ≡ last_or None g.reports
  pub tmmbns : s.control.tmmbns ≡ g.tmmbns
  pub clocked : s.clocked.0 ≡ speaker_of own g.clocks

abbrev pub Surveys : ℕ → (Result Gist FbFault → Type 0) → Result Survey FbFault → Type 0
Surveys own says r =
    MatchResult r (λ s. (g : Gist) × says (Ok g) × IsSurveyOf own s g) (λ fault. says (Err fault))

-- as many are listed as may be
abbrev pub is_full : ℕ → Option ℕ → Bool
is_full listed None = false
is_full listed (Some most) = nat_le most listed

-- something may be listed
abbrev pub MayList : Option ℕ → Type 0
MayList None = Unit {0}
MayList (Some most) = 0 < most

-- a call lists this, too, or memory was wanting for some of it
abbrev pub Lists : {E : Type 0} → Option ℕ → Reading → Reading → List Ask → Result (Unit {0}) E → Type 0
Lists most before after more r =
    MatchResult r (λ _. (asks : List Ask) → IsListed most asks before → IsListed most (asks ++ more) after)
    (λ _. (0 < length more) × MayList most)
