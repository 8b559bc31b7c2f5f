-- The laws of runs: of what they are said, and the facts that they state.
use Rattle.std.specs.Prelude.{◌≡◌, ◌<◌, ℕ, List, All, slice_get, Some}
use Rattle.std.specs.List.{flat_map, AllByRecursion}
use Rattle.members.specs.Calls.{Call as RoomCall}
use Rattle.settings.specs.Settings.{Configuration}
use Rattle.desk.specs.State.{DeskState, HoldsLegalDesk}
use Rattle.members.specs.declared.order.Change.{Change}
use Rattle.events.specs.declared.event.Event.{Event}
use Rattle.events.specs.declared.job.Job.{Job}
use Rattle.legs.specs.declared.leg.LegState.{LegState}
use Rattle.core_steps.specs.Happening.{Happening}
use Rattle.core_steps.specs.Laws.{TellsLegalDesk, taken_at, put_at}
use Rattle.legs.specs.Legs.{new_legs}
use Rattle.settings.specs.Links.{cname_of, table_of}
use Rattle.core_steps.specs.Numbered.{AtLeg, HasTaken, HasTakenAll, Taken, taken_on, finished_over, legs_at}
use Rattle.core_steps.specs.Opening.{IsNewWorld}
use Rattle.core_steps.specs.Rule.{Does}
use Rattle.core_steps.specs.Run.{Runs, worlds_after}
use Rattle.core_steps.specs.Traces.{AtDesk, HasRecorded, recorded_at}
use Rattle.core_steps.specs.World.{WorldState, Task}

-- ---- of what a law is said

-- of every world, and of each happening that an event may have in it
abbrev pub OfEveryHappening : (WorldState → Happening → Type 0) → Type 0
OfEveryHappening P = (w : WorldState) (e : Event) (h : Happening) → Does w e h → P w h

-- of every world, and of each history that a list of events may have in it
abbrev pub OfEveryRun : (WorldState → List Happening → Type 0) → Type 0
OfEveryRun P = (w : WorldState) (events : List Event) (history : List Happening)
    → Runs w events history → P w history

-- the same of every world that settings open
abbrev pub OfEveryRunFromNew : (Configuration → WorldState → List Happening → Type 0) → Type 0
OfEveryRunFromNew P =
    (c : Configuration) (w : WorldState) (events : List Event) (history : List Happening)
    → IsNewWorld c w → Runs w events history → P c w history

-- ---- what a history lists, in order

abbrev pub tasks_done : List Happening → List Task
tasks_done history = flat_map (λ (h : Happening). h.did) history

abbrev pub tasks_made : List Happening → List Task
tasks_made history = flat_map (λ (h : Happening). h.made) history

-- the jobs that were taken off the ring of this worker, and those that were put into it
abbrev pub jobs_taken : ℕ → List Happening → List Job
jobs_taken k history = flat_map (taken_at k) history

abbrev pub jobs_put : ℕ → List Happening → List Job
jobs_put k history = flat_map (put_at k) history

abbrev pub row_changes : List Happening → List Change
row_changes history = flat_map (λ (h : Happening). h.changes) history

-- the accepted calls of the room
abbrev pub room_calls : List Happening → List RoomCall
room_calls history = flat_map (λ (h : Happening). h.calls) history

-- ---- desks

abbrev pub HasLegalDesks : WorldState → Type 0
HasLegalDesks w = All HoldsLegalDesk w.desks

-- each desk recorded the calls of its publisher that the history lists
abbrev pub DesksRecord : WorldState → List Happening → Type 0
DesksRecord w history =
    (p : ℕ) (d : DeskState) → slice_get w.desks p ≡ Some d
    → AtDesk (HasRecorded d (recorded_at p history)) (worlds_after w history).desks p

-- what is told of each call of a desk is what a legal desk announces then
abbrev pub TellsLegalDesks : Happening → Type 0
TellsLegalDesks h = AllByRecursion TellsLegalDesk h.asked

-- ---- legs

-- the packets that this leg of worker k took, each by the rows as they were then
abbrev pub packets_taken : ℕ → LegState → WorldState → List Happening → List Taken
packets_taken k s w history = taken_on s.number s.link (finished_over k w history)

-- each leg of a worker holds and keeps what the packets that it took make of what it held
abbrev pub LegsTake : WorldState → List Happening → Type 0
LegsTake w history =
    (k place : ℕ) (s : LegState) → slice_get (legs_at k w) place ≡ Some s
    → AtLeg (HasTaken (packets_taken k s w history) s) (legs_at k (worlds_after w history)) place

-- each leg of a new world holds and keeps what the packets that it took make of a new leg, which has the name of its publisher
abbrev pub NewLegsTake : Configuration → WorldState → List Happening → Type 0
NewLegsTake c w history =
    (k place : ℕ) (s : LegState) → k < c.workers
    → slice_get (new_legs (table_of c) c.ring k) place ≡ Some s
    → AtLeg
    (HasTakenAll c.ring s.number s.link (cname_of (table_of c) s.link.publisher)
    (packets_taken k s w history))
    (legs_at k (worlds_after w history)) place
