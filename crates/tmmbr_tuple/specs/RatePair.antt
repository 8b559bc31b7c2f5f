-- A packet rate and a net media rate: a pair (RFC 5104, sections 2.2 and 3.5.4).
use Rattle.std.specs.Prelude.{ℕ, ◌+◌, ◌*◌, ◌<◌, ◌≤◌}
use Rattle.tmmbr_tuple.specs.declared.tuple.Tuple.{Tuple}
use Rattle.tmmbr_tuple.specs.declared.pair.Pair.{Pair}
use Rattle.tmmbr_tuple.specs.Tuple.{rate_of}

-- so many packets and bits of net media in so many seconds (RFC 5104, section 2.2). No number has
-- an upper bound; if seconds is 0 it is no pair, and no statement speaks of it.
pub record RatePair : Type 0 where
  pub packets : ℕ
  pub bits : ℕ
  pub seconds : ℕ

-- the pair that a value of the program stands for
abbrev pub pair_of : Pair → RatePair
pair_of p = record { packets = p.packets; bits = p.bits; seconds = p.seconds }

-- A tuple permits a pair if the media and 8 bits for each byte of header stay within its
-- rate (RFC 5104, section 3.5.4).
abbrev pub Permits : Tuple → RatePair → Type 0
Permits t p = p.bits + 8 * t.overhead * p.packets ≤ rate_of t * p.seconds

-- A tuple forbids what it doesn't permit (RFC 5104, section 3.5.4).
abbrev pub Forbids : Tuple → RatePair → Type 0
Forbids t p = rate_of t * p.seconds < p.bits + 8 * t.overhead * p.packets
