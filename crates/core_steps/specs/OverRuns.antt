-- What holds of every run from a new world, in one call or several: what each desk announces, what is told of it, and what is live
-- of a stay that ended.
use Rattle.std.specs.Prelude.{◌≡◌, ℕ, ◌<◌, ◌≤◌, List, [], ◌∷◌, ◌++◌, length, take, slice_get, Option, Some, Result, Ok, Err}
use Rattle.tmmbr_tuple.specs.declared.tuple.Tuple.{Tuple}
use Rattle.bounding_set.specs.Rows.{tuple_of}
use Rattle.bounding_set.specs.State.{announced_of}
use Rattle.settings.specs.declared.settings.LegSettings.{LegSettings}
use Rattle.settings.specs.Settings.{Configuration}
use Rattle.settings.specs.Links.{table_of}
use Rattle.members.specs.declared.order.Order.TheVariants.{Depart}
use Rattle.desk.specs.declared.call.Entry.{Entry}
use Rattle.desk.specs.Places.{HasEntryAt, WasDone, IsRequestOf}
use Rattle.desk.specs.State.{DeskState}
use Rattle.events.specs.declared.event.Event.{Event}
use Rattle.events.specs.declared.output.Out.{Out}
use Rattle.events.specs.declared.run_fault.RunFault.{RunFault}
use Rattle.events.specs.RunFaults.{done_of}
use Rattle.desk_calls.specs.DeskCalls.{source_of}
use Rattle.desk_calls.specs.Notification.{pending_of, Pending}
use Rattle.core_steps.specs.EveryRun.{tasks_done}
use Rattle.core_steps.specs.Happening.{Happening, RecordedCall}
use Rattle.core_steps.specs.Opening.{IsNewWorld}
use Rattle.core_steps.specs.Run.{Runs, HasRun, worlds_after}
use Rattle.core_steps.specs.Traces.{AtDesk, AnnouncesAfter, HasLeft, IsRequestIn, calls_of, entries_at}
use Rattle.core_steps.specs.World.{WorldState, WorkerState, order, telling}

-- ---- of what it is said

-- the events that a run did: all, or those before its fault
abbrev pub events_done : Result (Unit {0}) RunFault → List Event → List Event
events_done (Ok x) events = events
events_done (Err fault) events = take (done_of fault) events

-- These events have run, after a past from the world `start`; and this holds of the whole history and the world that it leads to,
-- and on the way, of each beginning of it and the world there.
pub record RunsOn (P : List Happening → WorldState → Type 0) (start : WorldState)
    (past : List Happening) (events : List Event) (old : WorldState) (outs : List Out)
    (new : WorldState) (all : List Out) : Type 0 where
  pub run : HasRun events old outs new all
  pub now : P (past ++ run.history) new
  pub before : (first rest : List Happening) → past ++ run.history ≡ first ++ rest
      → P first (worlds_after start first)

-- it is so after every run from a new world of settings, in however many calls
abbrev pub OverRuns : (Configuration → List Happening → WorldState → Type 0)
    → List Event → WorldState → List Out → WorldState → List Out → Type 0
OverRuns P events old outs new all =
    (c : Configuration) (start : WorldState) (before : List Event) (past : List Happening)
    → IsNewWorld c start → Runs start before past → old ≡ worlds_after start past
    → RunsOn (P c) start past events old outs new all

-- ---- the announced sets

-- The set that the call's effect shows is the one that its desk announces then, after these calls and
-- this one (RFC 5104, section 4.2).
pub record ShowsAnnounced (c : Configuration) (before : List RecordedCall)
    (a : RecordedCall) : Type 0 where
  pub announces : AnnouncesAfter c (entries_at a.publisher (before ++ a ∷ [])) a.desk
  pub set : a.effect.set.items ≡ announced_of a.desk.bounds

-- one of these calls is to be notified of by this, with its effect (RFC 5104, section 4.2)
pub record IsOfCall (calls : List RecordedCall) (p : Pending) : Type 0 where
  pub place : ℕ
  pub call : RecordedCall
  pub there : slice_get calls place ≡ Some call
  pub asked_by : Option ℕ
  pub tells : pending_of call.publisher asked_by call.answer call.effect ≡ Some p

-- what waits to be told, or is in a worker's hand, is the effect of one of these calls (RFC 5104, section 4.2)
pub record TellsOf (calls : List RecordedCall) (w : WorldState) : Type 0 where
  pub waits : (p : Pending) → w.pending ≡ Some p → IsOfCall calls p
  pub in_hand : (k : ℕ) (s : WorkerState) (p : Pending) → slice_get w.workers k ≡ Some s
      → s.hand ≡ telling p → IsOfCall calls p

-- Of all calls that the history lists (RFC 5104, section 4.2): each publisher's desk announces what they leave to be announced. So
-- did the desk right after each call, and the call's effect shows that set. What is told are effects of these calls.
pub record Announces (c : Configuration) (history : List Happening) (w : WorldState) : Type 0 where
  pub desks : (p : ℕ) → p < length c.endpoints
      → AtDesk (AnnouncesAfter c (entries_at p (calls_of history))) w.desks p
  pub shown : (before behind : List RecordedCall) (a : RecordedCall)
      → calls_of history ≡ before ++ a ∷ behind → ShowsAnnounced c before a
  pub told : TellsOf (calls_of history) w

-- each desk announces so after every run from a new world, and on the way (RFC 5104, section 4.2)
abbrev pub AnnouncesOverRuns :
    List Event → WorldState → List Out → WorldState → List Out → Type 0
AnnouncesOverRuns = OverRuns Announces

-- ---- stays that ended

-- The owner's request that is live was made in this stay: it is the last that was done (RFC 5104, section 4.2.1).
pub record IsLiveInStay (entries : List Entry) (owner stay : ℕ) (d : DeskState) : Type 0 where
  pub tuple : Tuple
  pub live : tuple_of d.bounds.rows owner ≡ Some tuple
  pub place : ℕ
  pub request : HasEntryAt (WasDone (IsRequestIn owner stay tuple)) entries place
  pub last : (later : ℕ) (other : Tuple) → place < later
      → ¬ HasEntryAt (WasDone (IsRequestOf owner other)) entries later

-- the owner isn't present with the stay, and no request that it made in the stay is live
abbrev pub IsOver : List Entry → ℕ → ℕ → DeskState → Type 0
IsOver entries owner stay d = HasLeft owner stay d × ¬ IsLiveInStay entries owner stay d

-- each stay whose depart was done is over at the desk of its leg's publisher (RFC 5104, section 4.2.1)
abbrev pub EndsStays : Configuration → List Happening → WorldState → Type 0
EndsStays c history w =
    (place leg stay : ℕ) (l : LegSettings) (d : DeskState) → 1 ≤ stay
    → slice_get (tasks_done history) place ≡ Some (order (Depart leg stay))
    → slice_get c.legs leg ≡ Some l → slice_get w.desks l.publisher ≡ Some d
    → IsOver (entries_at l.publisher (calls_of history)) (source_of (table_of c) l.subscriber).0
    stay d

-- stays that ended are over after every run from a new world, and on the way (RFC 5104, section 4.2.1)
abbrev pub EndsStaysOverRuns :
    List Event → WorldState → List Out → WorldState → List Out → Type 0
EndsStaysOverRuns = OverRuns EndsStays
