-- Which packets are let through as asked for again (RFC 4585, section 6.2.1): not too soon, and not too many in a second.
use Rattle.std.specs.Prelude.{◌==◌, ℕ, ◌+◌, ◌-◌, ◌*◌, ◌/◌, ◌%◌, ◌^◌, nat_lt, nat_le, not, ◌&&◌, ◌||◌, Bool, true, false, List, [], ◌∷◌, Option, None, Some, max, min, slice_get, slice_set, if◌then◌else◌}
use Rattle.policy.specs.declared.leg_resends.Allowance.{Allowance}
use Rattle.policy.specs.declared.leg_resends.Flow.{Flow}
use Rattle.policy.specs.declared.leg_resends.Passed.{Passed}
use Rattle.policy.specs.declared.leg_resends.TheConstants.{MAX_TRIP_MS, REMEMBERED}

-- the second of the clock that a moment is in
abbrev pub second_of : ℕ → ℕ
second_of moment = moment / 1000

-- ---- what came of a publisher

-- as it stands in this second
abbrev pub flow_at : Flow → ℕ → Flow
flow_at f second = if f.second == second then f else record {
  second = second;
  packets = 0;
  before = if second - f.second == 1 then f.packets else 0;
}

-- a packet more came
abbrev pub one_more : Flow → Flow
one_more f =
    record { second = f.second; packets = min (f.packets + 1) (2 ^ 32 - 1); before = f.before }

-- what came, with one packet more at this moment
abbrev pub flow_with : Flow → ℕ → Flow
flow_with f moment = one_more (flow_at f (second_of moment))

-- how many may be let through on a leg in this second: so many percent of the packets that came of its publisher in the second
-- before, or in this one by now if these are more. A share of 0 bounds nothing.
abbrev pub most_of : ℕ → Flow → ℕ
most_of share f = share * max f.packets f.before / 100

-- the same at this moment
abbrev pub most_at : ℕ → Flow → ℕ → ℕ
most_at share f moment =
    if share == 0 then 2 ^ 64 - 1 else most_of share (flow_at f (second_of moment))

-- ---- what was let through on a leg

-- By number modulo REMEMBERED the last one that was let through, and when; in which second the last was, how many in that second,
-- and how many were held back since the beginning.
pub record Book : Type 0 where
  pub last : List (Option Passed)
  pub second : ℕ
  pub count : ℕ
  pub held : ℕ

-- ---- how long a number has to be let through before

-- The gap if this round trip is known: the longer of both, but of a round trip no more than MAX_TRIP_MS count. If no gap is wanted,
-- none (RFC 4585, section 6.2.1).
abbrev pub gap_by : ℕ → Option ℕ → ℕ
gap_by gap None = gap
gap_by gap (Some trip) = if gap == 0 then 0 else max gap (min trip MAX_TRIP_MS)

-- ---- whether a number is let through

-- as many in this second by now
abbrev pub count_at : Book → ℕ → ℕ
count_at b second = if b.second == second then b.count else 0

-- A number is due if it wasn't let through, or gap_ms ago or earlier. What is forgotten is due: another number of the same place was let
-- through since (RFC 4585, section 6.2.1).
abbrev pub is_due : Option (Option Passed) → Allowance → ℕ → Bool
is_due None a seq = true
is_due (Some None) a seq = true
is_due (Some (Some p)) a seq = not (p.seq == seq) || nat_le a.gap_ms (a.moment - p.moment)

abbrev pub place_of : ℕ → ℕ
place_of seq = seq % REMEMBERED

-- a number that is asked for again is let through if it is due and the leg's share of this second isn't spent (RFC 4585, section 6.2.1)
abbrev pub is_resend_admitted : Book → Allowance → ℕ → Bool
is_resend_admitted b a seq =
    nat_lt (count_at b (second_of a.moment)) a.most
    && is_due (slice_get b.last (place_of seq)) a seq

abbrev pub book_noted : Bool → Book → Allowance → ℕ → Book
book_noted true b a seq = record {
  last = slice_set b.last (place_of seq) (Some (record { seq = seq; moment = a.moment }));
  second = second_of a.moment;
  count = count_at b (second_of a.moment) + 1;
  held = b.held;
}
book_noted false b a seq = record {
  last = b.last;
  second = b.second;
  count = b.count;
  held = min (b.held + 1) (2 ^ 64 - 1);
}

-- the book once this number was asked for (RFC 4585, section 6.2.1)
abbrev pub book_with : Book → Allowance → ℕ → Book
book_with b a seq = book_noted (is_resend_admitted b a seq) b a seq

-- ---- several numbers, one after the other

-- of these numbers those that are let through, one after the other (RFC 4585, section 6.2.1)
abbrev pub numbers_passed : Book → Allowance → List ℕ → List ℕ
numbers_passed b a [] = []
numbers_passed b a (n ∷ ns) =
    if is_resend_admitted b a n then n ∷ numbers_passed (book_with b a n) a ns
    else numbers_passed (book_with b a n) a ns

abbrev pub book_after : Book → Allowance → List ℕ → Book
book_after b a [] = b
book_after b a (n ∷ ns) = book_after (book_with b a n) a ns
