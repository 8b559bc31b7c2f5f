-- A worker's step, on the parts of the world that it sees.
use Rattle.std.specs.Prelude.{◌≡◌, ℕ, ◌^◌, ◌<◌, List, slice_get, slice_set, Option, Some}
use Rattle.members.specs.declared.order.Row.{Row}
use Rattle.desk.specs.State.{DeskState}
use Rattle.events.specs.declared.output.Out.{Out}
use Rattle.core_steps.specs.Asking.{Asked}
use Rattle.core_steps.specs.Rule.{WorksOn, hand_of}
use Rattle.core_steps.specs.Run.{Leaves}
use Rattle.core_steps.specs.World.{Setup, Hand, WorkerState, WorldState}
use Rattle.desk_calls.specs.declared.calls.Question.{Question}
use Rattle.desk_calls.specs.Notification.{Pending}

abbrev pub with_new_hand : WorkerState → Hand → WorkerState
with_new_hand s hand = record s { hand = hand }

-- the desk of a publisher was asked among these, and what waits to be told stays in the worker's hand
pub record IsDeskTold (q : Question) (desks later : List DeskState) (s next : WorkerState)
    (outs all : List Out) : Type 0 where
  pub pending : Option Pending
  pub asked : Asked q (slice_get desks q.publisher) desks later pending outs all
  pub worker : next ≡ with_new_hand s (hand_of pending)

-- the world with this setup, and these rows and desks
abbrev pub world_with : WorldState → Setup → List Row → List DeskState → WorldState
world_with w setup rows desks = record w { setup = setup; rows = rows; desks = desks }

-- the world with these desks, and this worker under its number
abbrev pub world_after_step : WorldState → ℕ → List DeskState → WorkerState → WorldState
world_after_step w k desks s = record w { desks = desks; workers = slice_set w.workers k s }

-- in each world with these parts the worker's step is one that it may do
abbrev pub StepsWorker : Setup → List Row → List DeskState → List DeskState → WorkerState → WorkerState
    → List Out → List Out → Type 0
StepsWorker setup rows desks later s next outs all =
    (w : WorldState) (k : ℕ) → slice_get w.workers k ≡ Some s → w.lost < 2 ^ 64 → w.tmmbns < 2 ^ 64
    → Leaves (WorksOn (world_with w setup rows desks) k s s.hand s.jobs)
    (world_with w setup rows desks) outs
    (world_after_step (world_with w setup rows desks) k later next) all
