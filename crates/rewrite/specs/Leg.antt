-- What a leg holds, and what it answers by that.
use Rattle.std.specs.Prelude.{◌≡◌, ℕ, ◌+◌, ◌-◌, ◌*◌, ◌<◌, ◌≤◌, max, nat_lt, List, [], ◌∷◌, All, Option, None, Some, Result, Ok, Err, if◌then◌else◌}
use Rattle.rewrite.specs.declared.skip.Skip.{Skip}
use Rattle.rewrite.specs.declared.skip.Skip.TheVariants.{Old}
use Rattle.rewrite.specs.declared.segment.Segment.{Segment}
use Rattle.rewrite.specs.declared.segment.TheConstants.{NUMBER_LIMIT}
use Rattle.rewrite.specs.Sequence.{extended_number}
use Rattle.rewrite.specs.declared.sequence.TheConstants.{SEQ_CYCLE}
use Rattle.rewrite.specs.Numbering.{IncomingPacket, Entry, Numbered, IsBase, IsHighest, base_place, within_limit}

-- the first number, and the packets of the latest turn
pub record Held : Type 0 where
  pub first : ℕ
  pub segment : Option Segment

-- a segment begins with this packet; extended numbers begin one cycle up
abbrev pub first_segment : ℕ → ℕ → ℕ → Segment
first_segment turn seq start =
    record { turn = turn; base = SEQ_CYCLE + seq; start = start; highest = SEQ_CYCLE + seq }

-- the outgoing number of the highest packet
abbrev pub last_number : Segment → ℕ
last_number s = s.start + (s.highest - s.base)

-- what always holds of a segment
pub record IsWithinLimit (s : Segment) : Type 0 where
  pub cycled : SEQ_CYCLE ≤ s.base
  pub first_cycle : s.base < 2 * SEQ_CYCLE
  pub risen : s.base ≤ s.highest
  pub limit : last_number s < NUMBER_LIMIT

-- the answer at an extended number: as far above the start as that is above the base
abbrev pub answer_at : Segment → ℕ → Result ℕ Skip
answer_at s extended =
    if nat_lt extended s.base then Err Old else within_limit (s.start + (extended - s.base))

-- the answer to a packet of the segment's own turn
abbrev pub answer_in : Segment → ℕ → Result ℕ Skip
answer_in s seq = answer_at s (extended_number s.highest seq)

-- the segment, once this number is given too
abbrev pub with_number : Segment → ℕ → Segment
with_number s number = record s { highest = max s.highest (s.base + (number - s.start)) }

-- The answer to a packet. A greater turn than the latest begins a segment, with the number above the last one; a
-- lesser turn is late.
abbrev pub answer_by : ℕ → Option Segment → ℕ → ℕ → Result ℕ Skip
answer_by first None turn seq = Ok first
answer_by first (Some s) turn seq =
    if nat_lt s.turn turn then within_limit (last_number s + 1)
    else if nat_lt turn s.turn then Err Old
    else answer_in s seq

-- the answer to a packet, by the few numbers that a leg holds
abbrev pub answer_to : Held → ℕ → ℕ → Result ℕ Skip
answer_to held turn seq = answer_by held.first held.segment turn seq

-- the latest segment, once a packet has this number
abbrev pub segment_with : Option Segment → ℕ → ℕ → ℕ → Segment
segment_with None turn seq number = first_segment turn seq number
segment_with (Some s) turn seq number =
    if nat_lt s.turn turn then first_segment turn seq number else with_number s number

-- what is held once a packet was answered
abbrev pub held_with : Held → ℕ → ℕ → Result ℕ Skip → Held
held_with held turn seq (Ok number) =
    record { first = held.first; segment = Some (segment_with held.segment turn seq number) }
held_with held turn seq (Err skip) = held

-- what a leg answers to packets in turn
abbrev pub history_of : Held → List IncomingPacket → List Entry
history_of held [] = []
history_of held (p ∷ packets) =
    record { turn = p.turn; seq = p.seq; answer = answer_to held p.turn p.seq }
    ∷ history_of (held_with held p.turn p.seq (answer_to held p.turn p.seq)) packets

-- what a leg holds after packets in turn
abbrev pub held_after : Held → List IncomingPacket → Held
held_after held [] = held
held_after held (p ∷ packets) =
    held_after (held_with held p.turn p.seq (answer_to held p.turn p.seq)) packets

abbrev pub new_leg : ℕ → Held
new_leg first = record { first = first; segment = None }

-- The segment that these numbered packets leave open is that of the greatest turn (RFC 3550, appendix A.1). Its base is
-- that turn's first packet, and its highest the greatest extended number of that turn.
pub record IsOpen (given : List Numbered) (s : Segment) : Type 0 where
  pub latest : All (λ p. p.turn ≤ s.turn) given
  pub first : Numbered
  pub is_base : IsBase given s.turn first
  pub base : s.base ≡ base_place first
  pub start : s.start ≡ first.number
  pub is_highest : IsHighest given first s.highest

abbrev pub LeavesOpen : List Numbered → Option Segment → Type 0
LeavesOpen given None = given ≡ []
LeavesOpen given (Some s) = IsOpen given s

-- what a leg with this first number holds, once these packets got their numbers (RFC 3550, appendix A.1)
pub record IsHeldBy (first : ℕ) (given : List Numbered) (held : Held) : Type 0 where
  pub same_first : held.first ≡ first
  pub open_segment : LeavesOpen given held.segment
