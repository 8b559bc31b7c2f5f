-- What a reception holds, and what each call makes of it.
use Rattle.std.specs.Prelude.{◌≡◌, ℕ, ◌+◌, ◌-◌, ◌*◌, ◌/◌, ◌%◌, ◌<◌, ◌≤◌, max, fold, List, Option, None, Some, IsSomeAnd, option_map, nat_lt, if◌then◌else◌}
use Rattle.tmmbr_tuple.specs.declared.ssrc.Ssrc.{Ssrc}
use Rattle.members.specs.declared.reception.SenderReport.{SenderReport}
use Rattle.members.specs.declared.stream.Stream.{Stream}
use Rattle.members.specs.declared.stream.TheConstants.{COUNTED_PACKETS, WORD_VALUES}
use Rattle.rewrite.specs.Sequence.{extended_number}
use Rattle.rewrite.specs.declared.sequence.TheConstants.{SEQ_CYCLE}
use Rattle.rewrite.specs.declared.sequence.TheConstants.{SEQ_REACH}
use Rattle.members.specs.Reception.{Block, Heard, ReceptionCall, Received, SenderReported, BlockMade, middle_in, delay_in, expected_in, lost_of, fraction_of, apart, jitter_after, transit_at}

-- what always holds of a stream
pub record IsCounted (s : Stream) : Type 0 where
  pub cycled : SEQ_CYCLE ≤ s.base_seq
  pub first_cycle : s.base_seq < 2 * SEQ_CYCLE
  pub risen : s.base_seq ≤ s.max_seq
  pub reached : s.max_seq < s.base_seq + s.received * SEQ_REACH
  pub some_received : 1 ≤ s.received
  pub limit : s.received ≤ COUNTED_PACKETS
  pub expected_before : s.expected_prior ≤ expected_in s.base_seq s.max_seq
  pub received_before : s.received_prior ≤ s.received
  pub even : s.jitter < 8 * WORD_VALUES + 8

-- the stream that begins with a packet
abbrev pub new_stream : ℕ → ℕ → Stream
new_stream seq transit = record {
  base_seq = SEQ_CYCLE + seq;
  max_seq = SEQ_CYCLE + seq;
  received = 1;
  expected_prior = 0;
  received_prior = 0;
  transit = transit;
  jitter = 0;
}

-- the stream with one more packet, unless as many as count were received already
abbrev pub with_packet : Stream → ℕ → ℕ → Stream
with_packet s seq transit = record s {
  max_seq = max s.max_seq (extended_number s.max_seq seq);
  received = s.received + 1;
  transit = transit;
  jitter = jitter_after s.jitter (apart s.transit transit);
}

abbrev pub counted_with : Stream → ℕ → ℕ → Stream
counted_with s seq transit =
    if nat_lt s.received COUNTED_PACKETS then with_packet s seq transit else s

-- the stream, once a block was made
abbrev pub stream_after_block : Stream → Stream
stream_after_block s =
    record s { expected_prior = expected_in s.base_seq s.max_seq; received_prior = s.received }

-- ---- the calls

abbrev pub nothing_heard : Heard
nothing_heard = record { stream = None; report = None }

abbrev pub stream_with : Option Stream → ℕ → ℕ → Stream
stream_with None seq transit = new_stream seq transit
stream_with (Some s) seq transit = counted_with s seq transit

abbrev pub heard_packet : Heard → ℕ → ℕ → ℕ → Heard
heard_packet h moment seq timestamp =
    record h { stream = Some (stream_with h.stream seq (transit_at moment timestamp)) }

abbrev pub heard_report : Heard → ℕ → ℕ → ℕ → Heard
heard_report h moment ntp rtp =
    record h { report = Some (record { moment = moment; ntp = ntp; rtp = rtp }) }

abbrev pub heard_block : Heard → Heard
heard_block h = record h { stream = option_map stream_after_block h.stream }

-- what is held after a call
abbrev pub heard_call : Heard → ReceptionCall → Heard
heard_call h (Received p) = heard_packet h p.moment p.seq p.timestamp
heard_call h (SenderReported r) = heard_report h r.moment r.ntp r.rtp
heard_call h BlockMade = heard_block h

-- what a new reception holds after calls in turn
abbrev pub heard_after : List ReceptionCall → Heard
heard_after calls = fold heard_call nothing_heard calls

-- ---- the answers

-- the report block of a stream
pub record IsBlockOf (s : Stream) (report : Option SenderReport) (moment : ℕ) (source : Ssrc)
    (b : Block) : Type 0 where
  pub about : b.source ≡ source
  pub fraction : b.fraction ≡ fraction_of (expected_in s.base_seq s.max_seq
      - s.expected_prior) (s.received - s.received_prior)
  pub lost : b.lost ≡ lost_of (expected_in s.base_seq s.max_seq) s.received
  pub highest : b.highest ≡ (s.max_seq - SEQ_CYCLE) % WORD_VALUES
  pub jitter : b.jitter ≡ s.jitter / 16
  pub last_sr : b.last_sr ≡ middle_in report
  pub delay : b.delay ≡ delay_in report moment

abbrev pub IsAnswerBy : Option Stream → Option SenderReport → ℕ → Ssrc → Option Block → Type 0
IsAnswerBy None report moment source answer = answer ≡ None
IsAnswerBy (Some s) report moment source answer =
    IsSomeAnd answer (IsBlockOf s report moment source)

-- the answer to a wish for a block, by the few numbers that a reception holds: None exactly if nothing was received
abbrev pub IsBlockAnswer : Heard → ℕ → Ssrc → Option Block → Type 0
IsBlockAnswer h moment source answer = IsAnswerBy h.stream h.report moment source answer

-- the NTP and RTP timestamps of a report
abbrev pub timestamps_of : Option SenderReport → Option (ℕ × ℕ)
timestamps_of None = None
timestamps_of (Some r) = Some (r.ntp, r.rtp)
