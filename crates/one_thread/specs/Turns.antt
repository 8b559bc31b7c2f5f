-- Turns: what a receive gave, and the moment that the clock told then. What comes of them from outside.
use Rattle.std.specs.Prelude.{◌≡◌, ◌⊎◌, ℕ, ◌+◌, ◌<◌, ◌≤◌, Bool, true, false, List, [], ◌∷◌, ◌++◌, map, length, nat_lt, Option, None, Some, if◌then◌else◌}
use Rattle.events.specs.declared.event.Event.{Event}
use Rattle.events.specs.declared.event.Event.TheVariants.{Hear, Tick, Select}
use Rattle.events.specs.declared.output.Out.{Out}
use Rattle.ports.specs.declared.datagram.Datagram.{Datagram}
use Rattle.ports.specs.declared.source.TheConstants.{MAX_FAULTS}
use Rattle.ports.specs.Outside.{Arrival, came, chosen, stop, silence, failure, is_stop, Grows, SinkView, datagrams_of}
use Rattle.ports.specs.Ticks.{TicksState, is_due, ticks_after}
use Rattle.core_steps.specs.Waits.{as_counted}
use Rattle.core_steps.specs.World.{WorldState}
use Rattle.one_thread.specs.declared.tally.Tally.{Tally}
use Rattle.one_thread.specs.Driving.{Drives, DrivesSome}

-- ---- what comes from outside

pub record Turn : Type 0 where
  pub arrival : Arrival
  pub moment : ℕ

-- a datagram is heard, and a leg is selected or not, at the moment of the turn that brought it
abbrev pub brought_at : ℕ → Arrival → List Event
brought_at moment (came endpoint bytes) = Hear moment endpoint bytes ∷ []
brought_at moment (chosen leg on) = Select moment leg on ∷ []
brought_at moment stop = []
brought_at moment silence = []
brought_at moment failure = []

-- whose datagram came
abbrev pub who_came : Arrival → Option ℕ
who_came (came endpoint bytes) = Some endpoint
who_came (chosen leg on) = None
who_came stop = None
who_came silence = None
who_came failure = None

-- of whose datagram what stands at a place is, if so much from the first place on is of this endpoint's, and the rest of none
abbrev pub whose : Option ℕ → ℕ → ℕ → Option ℕ
whose endpoint count place = if nat_lt place count then endpoint else None

-- a tick is made if one is due
abbrev pub tick_at : TicksState → ℕ → List Event
tick_at ticks moment = if is_due ticks moment then Tick moment ∷ [] else []

-- what comes from outside in a turn: the datagram or the selection that was received, at the moment that the clock
-- told, and a tick if one is due
abbrev pub turn_events : TicksState → Turn → List Event
turn_events ticks t = brought_at t.moment t.arrival ++ tick_at ticks t.moment

-- those of all turns, one after the other
abbrev pub events_of : TicksState → List Turn → List Event
events_of ticks [] = []
events_of ticks (t ∷ turns) = turn_events ticks t ++ events_of (ticks_after ticks t.moment) turns

-- how ticks stand after the turns
abbrev pub ticks_over : TicksState → List Turn → TicksState
ticks_over ticks [] = ticks
ticks_over ticks (t ∷ turns) = ticks_over (ticks_after ticks t.moment) turns

-- ---- receives that fail

-- how many receives in a row failed, with this one
abbrev pub faults_with : ℕ → Arrival → ℕ
faults_with faults (came endpoint bytes) = 0
faults_with faults (chosen leg on) = 0
faults_with faults stop = 0
faults_with faults silence = 0
faults_with faults failure = faults + 1

abbrev pub faults_over : ℕ → List Turn → ℕ
faults_over faults [] = faults
faults_over faults (t ∷ turns) = faults_over (faults_with faults t.arrival) turns

-- before each turn fewer receives in a row had failed than end a run
abbrev pub GoesOn : ℕ → List Turn → Type 0
GoesOn faults [] = Unit {0}
GoesOn faults (t ∷ turns) = (faults < MAX_FAULTS) × GoesOn (faults_with faults t.arrival) turns

-- ---- when a run stops

-- no stop came in these turns
abbrev pub NeverStops : List Turn → Type 0
NeverStops [] = Unit {0}
NeverStops (t ∷ turns) = (is_stop t.arrival ≡ false) × NeverStops turns

-- so many turns were made, and no stop came
pub record IsWhole (count : ℕ) (turns : List Turn) : Type 0 where
  pub size : length turns ≡ count
  pub on : NeverStops turns

-- a stop came in the last turn, in none before, and there were no more turns than so many
pub record IsStopped (count : ℕ) (turns : List Turn) : Type 0 where
  pub before : List Turn
  pub last : Turn
  pub all : turns ≡ before ++ last ∷ []
  pub on : NeverStops before
  pub stops : is_stop last.arrival ≡ true
  pub size : length turns ≤ count

-- a run of so many turns makes them all, or ends with the turn in which a stop came
abbrev pub EndsInTime : ℕ → List Turn → Type 0
EndsInTime count turns = IsWhole count turns ⊎ IsStopped count turns

-- ---- counts

abbrev pub heard_count : Arrival → ℕ
heard_count (came endpoint bytes) = 1
heard_count (chosen leg on) = 0
heard_count stop = 0
heard_count silence = 0
heard_count failure = 0

abbrev pub heard_over : List Turn → ℕ
heard_over [] = 0
heard_over (t ∷ turns) = heard_count t.arrival + heard_over turns

-- a count rises by so many, and stays at its greatest once it is there
abbrev pub Raises : ℕ → ℕ → ℕ → Type 0
Raises count more next = (n : ℕ) → count ≡ as_counted n → next ≡ as_counted (n + more)

-- ---- the outside

-- what the feed gave, what the clock told and what the sink was handed, if that is known; and how many sends failed
pub record OutsideView : Type 0 where
  pub given : Option (List Arrival)
  pub told : Option (List ℕ)
  pub handed : Option (List Datagram)
  pub failures : ℕ

abbrev pub sink_of : OutsideView → SinkView
sink_of view = record { handed = view.handed; failures = view.failures }

abbrev pub view_of : Option (List Arrival) → Option (List ℕ) → SinkView → OutsideView
view_of given told sink =
    record { given = given; told = told; handed = sink.handed; failures = sink.failures }

-- The datagrams of what the machine gave out came to the sink, in order; so many were sent, and so many couldn't be.
pub record Sends (outs : List Out) (before after : SinkView) (sent failed : ℕ) : Type 0 where
  pub handed : Grows before.handed (datagrams_of outs) after.handed
  pub all : sent + failed ≡ length (datagrams_of outs)
  pub failures : after.failures ≡ before.failures + failed

-- they came to the sink, and are counted
pub record SendsCounted (outs : List Out) (before after : SinkView) (former tally : Tally) : Type 0 where
  pub sent : ℕ
  pub failed : ℕ
  pub sends : Sends outs before after sent failed
  pub heard : tally.heard ≡ former.heard
  pub counts_sent : Raises former.sent sent tally.sent
  pub counts_failed : Raises former.failed failed tally.failed

-- ---- turns that are made

-- Of one turn: what the feed gave and the clock told, what was done of it, and what was handed over and counted; how ticks and
-- receives that fail stand then, and whether a stop came.
pub record MakesTurn (ticks next_ticks : TicksState) (faults next_faults : ℕ) (stopped : Bool)
    (old new : WorldState) (before after : OutsideView) (former tally : Tally) : Type 0 where
  pub turn : Turn
  pub outs : List Out
  pub drives : Drives (turn_events ticks turn) old [] new outs
  pub given : Grows before.given (turn.arrival ∷ []) after.given
  pub told : Grows before.told (turn.moment ∷ []) after.told
  pub sent : ℕ
  pub failed : ℕ
  pub sends : Sends outs (sink_of before) (sink_of after) sent failed
  pub counts_heard : Raises former.heard (heard_count turn.arrival) tally.heard
  pub counts_sent : Raises former.sent sent tally.sent
  pub counts_failed : Raises former.failed failed tally.failed
  pub noted : next_ticks ≡ ticks_after ticks turn.moment
  pub failing : next_faults ≡ faults_with faults turn.arrival
  pub stops : stopped ≡ is_stop turn.arrival

-- These turns were made. The feed gave what came in them, and the clock told their moments. The events from outside are those of
-- the turns, one after the other; each found nothing waiting; no job was given up; the sink was handed the machine's datagrams, in
-- order; and what came, was sent and couldn't be is counted.
pub record MakesTurns (ticks : TicksState) (turns : List Turn) (old new : WorldState)
    (before after : OutsideView) (tally : Tally) : Type 0 where
  pub outs : List Out
  pub drives : Drives (events_of ticks turns) old [] new outs
  pub given : Grows before.given (map (λ (t : Turn). t.arrival) turns) after.given
  pub told : Grows before.told (map (λ (t : Turn). t.moment) turns) after.told
  pub sent : ℕ
  pub failed : ℕ
  pub sends : Sends outs (sink_of before) (sink_of after) sent failed
  pub counts_heard : tally.heard ≡ as_counted (heard_over turns)
  pub counts_sent : tally.sent ≡ as_counted sent
  pub counts_failed : tally.failed ≡ as_counted failed

-- A turn was begun, and there was no memory in it: the feed gave, and the clock told; the first of its events were done, and what
-- the machine gave out then wasn't handed over.
pub record BreaksOff (ticks : TicksState) (old : WorldState) (before after : OutsideView) : Type 0
  where
    pub turn : Turn
    pub new : WorldState
    pub unsent : List Out
    pub drives : DrivesSome (turn_events ticks turn) old [] new unsent
    pub given : Grows before.given (turn.arrival ∷ []) after.given
    pub told : Grows before.told (turn.moment ∷ []) after.told
    pub sink : sink_of after ≡ sink_of before

-- So many turns were made from the world at the start, in which no stop came; this is how ticks and receives that fail stand then.
pub record HasMade (start : WorldState) (ticks : TicksState) (count : ℕ) (now : WorldState)
    (ticks_now : TicksState) (faults_now : ℕ) (tally : Tally) (before after : OutsideView) : Type 0
  where
    pub turns : List Turn
    pub whole : IsWhole count turns
    pub goes_on : GoesOn 0 turns
    pub made : MakesTurns ticks turns start now before after tally
    pub noted : ticks_now ≡ ticks_over ticks turns
    pub faults : faults_now ≡ faults_over 0 turns

-- Turns were made from the world at the start, so many unless a stop came; this is how receives that fail stand then.
pub record HasEnded (start : WorldState) (ticks : TicksState) (count : ℕ) (now : WorldState)
    (faults_now : ℕ) (tally : Tally) (before after : OutsideView) : Type 0
  where
    pub turns : List Turn
    pub in_time : EndsInTime count turns
    pub goes_on : GoesOn 0 turns
    pub made : MakesTurns ticks turns start now before after tally
    pub faults : faults_now ≡ faults_over 0 turns
