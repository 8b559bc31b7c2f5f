-- Whether a packet goes on where its source was, or the source began anew (RFC 3550, appendix A.1).
use Rattle.std.specs.Prelude.{◌≡◌, ◌==◌, ℕ, ◌+◌, ◌-◌, ◌*◌, ◌/◌, ◌%◌, ◌^◌, nat_lt, nat_le, min, Bool, false, ◌&&◌, ◌||◌, List, [], ◌∷◌, ◌++◌, Option, None, Some, slice_get, slice_set, if◌then◌else◌}
use Rattle.std.specs.Option.{option_map_or}
use Rattle.rewrite.specs.declared.sequence.TheConstants.{SEQ_CYCLE}
use Rattle.policy.specs.declared.sequence_tracker.SequenceTracker.{SequenceTracker}
use Rattle.policy.specs.declared.sequence_tracker.Stamp.{Stamp}
use Rattle.policy.specs.declared.sequence_tracker.Placement.{Placement}
use Rattle.policy.specs.declared.sequence_tracker.Placement.TheVariants.{InSequence, Jump, Restart}
use Rattle.policy.specs.declared.sequence_tracker.TheConstants.{MAX_AHEAD, MAX_DROPOUT, MAX_LATE_TICKS, MAX_MISORDER}

-- how far a number is ahead of the highest, across the wrap
abbrev pub ahead_of : ℕ → ℕ → ℕ
ahead_of highest seq = (seq + (SEQ_CYCLE - highest)) % SEQ_CYCLE

-- the number after this one, across the wrap
abbrev pub successor_of : ℕ → ℕ
successor_of seq = (seq + 1) % SEQ_CYCLE

-- how far a timestamp is after another one, across the wrap
abbrev pub ticks_ahead_of : ℕ → ℕ → ℕ
ticks_ahead_of highest timestamp = (timestamp + (2 ^ 32 - highest)) % 2 ^ 32

-- a timestamp is close to that of the highest number: fewer than MAX_LATE_TICKS after or before it (RFC 3550, appendix A.1)
abbrev pub is_close : ℕ → ℕ → Bool
is_close highest timestamp =
    nat_lt (ticks_ahead_of highest timestamp) MAX_LATE_TICKS
    || nat_lt (2 ^ 32 - MAX_LATE_TICKS) (ticks_ahead_of highest timestamp)

-- Fewer than MAX_DROPOUT are left out before it (RFC 3550, appendix A.1), whatever its timestamp is: its source may have been
-- silent. Or it comes fewer than MAX_MISORDER behind the highest, with a close timestamp: else its source began anew.
abbrev pub is_near : Stamp → Stamp → Bool
is_near highest stamp =
    nat_lt (ahead_of highest.seq stamp.seq) MAX_DROPOUT
    || (nat_lt (SEQ_CYCLE - MAX_MISORDER) (ahead_of highest.seq stamp.seq)
    && is_close highest.timestamp stamp.timestamp)

-- ---- an outage

-- its number is ahead of the highest rather than behind
abbrev pub is_ahead : Stamp → Stamp → Bool
is_ahead highest stamp = nat_lt (ahead_of highest.seq stamp.seq) MAX_AHEAD

-- how many milliseconds there are from the first packet to the highest number
abbrev pub lasted : SequenceTracker → ℕ
lasted run = run.highest.moment - run.began

-- by how many units timestamps go on from the highest number to this moment, at the rate at which they went on
-- before (RFC 3550, section 5.1)
abbrev pub expected_ticks : SequenceTracker → ℕ → ℕ
expected_ticks run moment = run.ticks * (moment - run.highest.moment) / lasted run

-- so many units are expected, and it is so many, within a factor of two
abbrev pub is_about : ℕ → ℕ → Bool
is_about expected ahead =
    nat_lt 0 expected && nat_le expected (2 * ahead) && nat_le ahead (2 * expected)

-- Its timestamp went on with the clock since the highest number, within a factor of two (RFC 3550, section 5.1). Before a
-- millisecond passed nothing is known of that.
abbrev pub is_on_time : SequenceTracker → Stamp → Bool
is_on_time run stamp =
    nat_lt 0 (lasted run)
    && is_about (expected_ticks run stamp.moment)
    (ticks_ahead_of run.highest.timestamp stamp.timestamp)

-- Its source goes on with it, though many numbers are left out before it: it is ahead, and on time (RFC 3550, section 5.1).
abbrev pub goes_on : SequenceTracker → Stamp → Bool
goes_on run stamp = is_ahead run.highest stamp && is_on_time run stamp

-- ---- where a packet stands

-- this number is awaited
abbrev pub is_awaited : Option ℕ → ℕ → Bool
is_awaited awaited seq = option_map_or (λ number. number == seq) awaited false

-- Where a packet stands (RFC 3550, appendix A.1): in sequence if it is near the highest number or goes on with the clock.
-- Else it is far: a restart if it follows the last far one.
abbrev pub placement_in : SequenceTracker → Stamp → Placement
placement_in run stamp =
    if is_near run.highest stamp || goes_on run stamp then InSequence
    else if is_awaited run.awaited stamp.seq then Restart else Jump

-- a source begins with this packet
abbrev pub tracker_from : Stamp → SequenceTracker
tracker_from stamp = record { highest = stamp; began = stamp.moment; ticks = 0; awaited = None }

-- how many units timestamps went on by, once they went on from this one to that, or back, whichever is less
abbrev pub ticks_with : ℕ → ℕ → ℕ → ℕ
ticks_with ticks before after =
    if nat_lt (ticks_ahead_of before after) (2 ^ 31)
    then min (ticks + ticks_ahead_of before after) (2 ^ 64 - 1)
    else ticks - ticks_ahead_of after before

-- this packet has the highest number
abbrev pub tracker_up_to : SequenceTracker → Stamp → SequenceTracker
tracker_up_to run stamp = record {
  highest = stamp;
  began = run.began;
  ticks = ticks_with run.ticks run.highest.timestamp stamp.timestamp;
  awaited = run.awaited;
}

-- the numbers with that of this packet, which stands so
abbrev pub tracker_placed : SequenceTracker → Stamp → Placement → SequenceTracker
tracker_placed run stamp InSequence =
    if is_ahead run.highest stamp then tracker_up_to run stamp else run
tracker_placed run stamp Jump = record run { awaited = Some (successor_of stamp.seq) }
tracker_placed run stamp Restart = tracker_from stamp

-- the numbers of a source, with this packet (RFC 3550, appendix A.1)
abbrev pub tracker_with : SequenceTracker → Stamp → SequenceTracker
tracker_with run stamp = tracker_placed run stamp (placement_in run stamp)

-- ---- each endpoint

-- a packet with this number and timestamp came at this moment
abbrev pub stamp_of : ℕ → ℕ → ℕ → Stamp
stamp_of seq timestamp moment = record { seq = seq; timestamp = timestamp; moment = moment }

abbrev pub first_or_placed : Option SequenceTracker → Stamp → Placement
first_or_placed None stamp = InSequence
first_or_placed (Some run) stamp = placement_in run stamp

abbrev pub begun_or_with : Option SequenceTracker → Stamp → SequenceTracker
begun_or_with None stamp = tracker_from stamp
begun_or_with (Some run) stamp = tracker_with run stamp

-- where this packet of the endpoint stands; an endpoint that isn't there has no place to go on from
abbrev pub placement_at : List (Option SequenceTracker) → ℕ → Stamp → Placement
placement_at runs endpoint stamp =
    option_map_or (λ run. first_or_placed run stamp) (slice_get runs endpoint) InSequence

abbrev pub trackers_of : List (Option SequenceTracker) → ℕ → Stamp → Option (Option SequenceTracker) → List (Option SequenceTracker)
trackers_of runs endpoint stamp None = runs
trackers_of runs endpoint stamp (Some run) =
    slice_set runs endpoint (Some (begun_or_with run stamp))

abbrev pub trackers_with : List (Option SequenceTracker) → ℕ → Stamp → List (Option SequenceTracker)
trackers_with runs endpoint stamp = trackers_of runs endpoint stamp (slice_get runs endpoint)

-- nothing is known of this endpoint's numbers
abbrev pub trackers_without : List (Option SequenceTracker) → ℕ → List (Option SequenceTracker)
trackers_without runs endpoint = slice_set runs endpoint None

-- ---- the whole list of a source's packets, the latest first

-- the numbers after these packets, the latest first (RFC 3550, appendix A.1)
abbrev pub tracker_of : List Stamp → Option SequenceTracker
tracker_of [] = None
tracker_of (stamp ∷ earlier) = Some (begun_or_with (tracker_of earlier) stamp)

-- a packet that is far from the highest came before, and this number is the one after its number (RFC 3550, appendix A.1)
pub record FollowsFar (packets : List Stamp) (seq : ℕ) : Type 0 where
  pub later : List Stamp
  pub far : Stamp
  pub earlier : List Stamp
  pub stood : packets ≡ later ++ far ∷ earlier
  pub was_far : first_or_placed (tracker_of earlier) far ≡ Jump
  pub next : seq ≡ successor_of far.seq
