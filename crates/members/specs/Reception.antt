-- What was received, over the whole list of calls (RFC 3550, section 6.4.1; appendices A.3 and A.8).
use Rattle.std.specs.Prelude.{◌≡◌, ℕ, ◌+◌, ◌-◌, ◌*◌, ◌/◌, ◌%◌, ◌≤◌, min, max, nat_le, Bool, true, false, List, [], ◌∷◌, ◌++◌, length, map, fold, take, All, Contains, filter_map, slice_get, Option, None, Some, IsSomeAnd, if◌then◌else◌, ℤ, pos, negsuc, ◌-ℤ◌, unsigned_abs}
use Rattle.std.specs.Int.{int_min, int_max, cast_signed, w32}
use Rattle.std.specs.List.{before_last}
use Rattle.tmmbr_tuple.specs.declared.ssrc.Ssrc.{Ssrc}
pub use Rattle.rtcp_compound.specs.declared.report.Block.{Block}
use Rattle.members.specs.declared.reception.SenderReport.{SenderReport}
use Rattle.members.specs.declared.stream.Stream.{Stream}
use Rattle.members.specs.declared.stream.TheConstants.{COUNTED_PACKETS, WORD_VALUES}
use Rattle.rewrite.specs.Sequence.{IsExtendedNumber, extended_number}
use Rattle.rewrite.specs.declared.sequence.TheConstants.{SEQ_CYCLE}

-- a packet: when it came, in milliseconds, its sequence number and its timestamp
pub record Arrival : Type 0 where
  pub moment : ℕ
  pub seq : ℕ
  pub timestamp : ℕ

-- a call of a reception that may change it
pub data ReceptionCall : Type 0 where
  Received : Arrival → ReceptionCall
  SenderReported : SenderReport → ReceptionCall
  BlockMade : ReceptionCall

abbrev pub packet_in : ReceptionCall → Option Arrival
packet_in (Received p) = Some p
packet_in (SenderReported r) = None
packet_in BlockMade = None

abbrev pub report_in : ReceptionCall → Option SenderReport
report_in (Received p) = None
report_in (SenderReported r) = Some r
report_in BlockMade = None

abbrev pub is_block : ReceptionCall → Bool
is_block (Received p) = false
is_block (SenderReported r) = false
is_block BlockMade = true

-- the packets that count: the first COUNTED_PACKETS (RFC 3550, appendix A.3)
abbrev pub counted_packets : List ReceptionCall → List Arrival
counted_packets calls = take COUNTED_PACKETS (filter_map packet_in calls)

-- the last sender report
abbrev pub last_report : List ReceptionCall → Option SenderReport
last_report calls =
    let reports = filter_map report_in calls in
    slice_get reports (length reports - 1)

-- ---- what was lost

-- extended numbers begin one cycle up, so that those below the first packet's are whole numbers too
abbrev pub first_number : Arrival → ℕ
first_number p = SEQ_CYCLE + p.seq

-- the greatest extended number, as a packet after another can only raise it
abbrev pub greatest_number : List Arrival → ℕ
greatest_number [] = 0
greatest_number (first ∷ rest) =
    fold (λ highest p. max highest (extended_number highest p.seq)) (first_number first) rest

abbrev pub expected_in : ℕ → ℕ → ℕ
expected_in base highest = highest - base + 1

-- how many packets were sent, from the first to the highest
abbrev pub expected_of : List Arrival → ℕ
expected_of [] = 0
expected_of (first ∷ rest) = expected_in (first_number first) (greatest_number (first ∷ rest))

-- how many were lost, within 24 signed bits
abbrev pub lost_of : ℕ → ℕ → ℤ
lost_of expected received =
    int_max (negsuc 8388607) (int_min (pos expected -ℤ pos received) (pos 8388607))

-- how many were lost in 256ths, of those expected
abbrev pub fraction_of : ℕ → ℕ → ℕ
fraction_of expected received =
    if nat_le expected received then 0 else min 255 ((expected - received) * 256 / expected)

-- ---- how evenly packets came

-- a 32-bit difference
abbrev pub word_minus : ℕ → ℕ → ℕ
word_minus a b = (a + (WORD_VALUES - b)) % WORD_VALUES

-- how long after its timestamp a packet came, in ticks of a clock of 90 in a millisecond
abbrev pub transit_at : ℕ → ℕ → ℕ
transit_at moment timestamp = word_minus (moment * 90 % WORD_VALUES) timestamp

abbrev pub transit_of : Arrival → ℕ
transit_of p = transit_at p.moment p.timestamp

-- how far two transits are apart: the size of their difference as a signed number
abbrev pub apart : ℕ → ℕ → ℕ
apart earlier later = unsigned_abs (cast_signed w32 (word_minus later earlier))

-- how far each transit is from the one before it
abbrev pub differences : ℕ → List ℕ → List ℕ
differences earlier [] = []
differences earlier (later ∷ rest) = apart earlier later ∷ differences later rest

-- 16 times the jitter, once a transit was this far from the one before it
abbrev pub jitter_after : ℕ → ℕ → ℕ
jitter_after jitter difference = jitter + difference - (jitter + 8) / 16

-- 16 times the jitter
abbrev pub jitter_of : List Arrival → ℕ
jitter_of [] = 0
jitter_of (first ∷ rest) =
    fold jitter_after 0 (differences (transit_of first) (map transit_of rest))

-- the last of a number and those after it
abbrev pub last_of : ℕ → List ℕ → ℕ
last_of first [] = first
last_of first (next ∷ rest) = last_of next rest

-- ---- the last sender report

-- the middle 32 bits of an NTP timestamp
abbrev pub middle_of : ℕ → ℕ
middle_of ntp = ntp / 65536 % WORD_VALUES

-- the time since a moment, in milliseconds, as units of 1/65536 second
abbrev pub delay_of : ℕ → ℕ → ℕ
delay_of heard moment = (moment - heard) * 65536 / 1000 % WORD_VALUES

abbrev pub middle_in : Option SenderReport → ℕ
middle_in None = 0
middle_in (Some r) = middle_of r.ntp

abbrev pub delay_in : Option SenderReport → ℕ → ℕ
delay_in None moment = 0
delay_in (Some r) moment = delay_of r.moment moment

-- ---- the whole

-- what a reception holds: the packets as a few numbers, and the last sender report
pub record Heard : Type 0 where
  pub stream : Option Stream
  pub report : Option SenderReport

-- What packets come to (RFC 3550, appendices A.3 and A.8): count, greatest extended number, fold of
-- the differences of transits. Those before had been received when the last block was made.
abbrev pub stream_of : List Arrival → List Arrival → Option Stream
stream_of before [] = None
stream_of before (first ∷ rest) = Some (record {
  base_seq = first_number first;
  max_seq = greatest_number (first ∷ rest);
  received = length (first ∷ rest);
  expected_prior = expected_of before;
  received_prior = length before;
  transit = last_of (transit_of first) (map transit_of rest);
  jitter = jitter_of (first ∷ rest);
})

-- the packets that were received when the last block was made
abbrev pub packets_before_block : List ReceptionCall → List Arrival
packets_before_block calls = counted_packets (before_last is_block calls)

-- what these calls come to: the numbers of the packets that count, and the last sender report
-- (RFC 3550, appendices A.3 and A.8)
abbrev pub reception_of : List ReceptionCall → Heard
reception_of calls = record {
  stream = stream_of (packets_before_block calls) (counted_packets calls);
  report = last_report calls;
}

-- the report block on these packets, those before it, and the last sender
-- report (RFC 3550, section 6.4.1)
pub record IsBlockAbout (before packets : List Arrival) (report : Option SenderReport) (moment : ℕ)
    (source : Ssrc) (b : Block) : Type 0 where
  pub about : b.source ≡ source
  pub fraction : b.fraction
      ≡ fraction_of (expected_of packets - expected_of before) (length packets - length before)
  pub lost : b.lost ≡ lost_of (expected_of packets) (length packets)
  pub highest : b.highest ≡ (greatest_number packets - SEQ_CYCLE) % WORD_VALUES
  pub jitter : b.jitter ≡ jitter_of packets / 16
  pub last_sr : b.last_sr ≡ middle_in report
  pub delay : b.delay ≡ delay_in report moment

abbrev pub AnswersBlock : List Arrival → List Arrival → Option SenderReport → ℕ → Ssrc
    → Option Block → Type 0
AnswersBlock before [] report moment source answer = answer ≡ None
AnswersBlock before (first ∷ rest) report moment source answer =
    IsSomeAnd answer (IsBlockAbout before (first ∷ rest) report moment source)

-- the answer to the wish for a block after these calls: None exactly if no packet was
-- received (RFC 3550, section 6.4.1)
abbrev pub IsBlockAfter : List ReceptionCall → ℕ → Ssrc → Option Block → Type 0
IsBlockAfter calls moment source answer =
    AnswersBlock (packets_before_block calls) (counted_packets calls)
    (last_report calls) moment source answer

-- ---- the greatest extended number, as a property

pub record IsGreatest (numbers : List ℕ) (n : ℕ) : Type 0 where
  pub reached : Contains numbers n
  pub bound : All (λ m. m ≤ n) numbers

-- the number that a packet stands for, after packets that stand for these (RFC 3550, appendix A.1)
abbrev pub ExtendsTo : List ℕ → Arrival → ℕ → Type 0
ExtendsTo [] p number = number ≡ first_number p
ExtendsTo (m ∷ past) p number =
    (highest : ℕ) × (IsGreatest (m ∷ past) highest × IsExtendedNumber highest p.seq number)

abbrev pub AllStandFor : List ℕ → List Arrival → List ℕ → Type 0
AllStandFor past [] [] = Unit {0}
AllStandFor past [] (number ∷ numbers) = ⊥
AllStandFor past (p ∷ packets) [] = ⊥
AllStandFor past (p ∷ packets) (number ∷ numbers) =
    ExtendsTo past p number × AllStandFor (past ++ number ∷ []) packets numbers

-- the greatest of the numbers that these packets stand for (RFC 3550, appendix A.1)
pub record IsHighest (packets : List Arrival) (highest : ℕ) : Type 0 where
  pub numbers : List ℕ
  pub stand_for : AllStandFor [] packets numbers
  pub greatest : IsGreatest numbers highest
