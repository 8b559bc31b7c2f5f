-- What one event did, by lists, and the world after it.
use Rattle.std.specs.Prelude.{ℕ, ◌+◌, ◌-◌, ◌^◌, min, List, [], ◌++◌, length, drop, fold, slice_index_or, slice_set, Option}
use Rattle.members.specs.Calls.{Call as RoomCall, room_after}
use Rattle.desk.specs.declared.call.Call.{Call as DeskCall}
use Rattle.desk.specs.declared.call.Answer.{Answer}
use Rattle.desk.specs.declared.effect.Effect.{Effect}
use Rattle.desk.specs.State.{DeskState}
use Rattle.members.specs.declared.order.Change.{Change}
use Rattle.members.specs.Rows.{row_changed}
use Rattle.events.specs.declared.job.Job.{Job}
use Rattle.events.specs.declared.output.Out.{Out}
use Rattle.legs.specs.declared.leg.LegState.{LegState}
use Rattle.core_steps.specs.declared.rounds.Round.{Round}
use Rattle.core_steps.specs.World.{WorldState, WorkerState, Task, Hand, free}
use Rattle.desk_calls.specs.Notification.{Pending}

-- a recorded call of a publisher's desk with its number, its answer and its effect, and the desk from then on
pub record RecordedCall : Type 0 where
  pub publisher : ℕ
  pub call : DeskCall
  pub number : ℕ
  pub answer : Answer
  pub effect : Effect
  pub desk : DeskState

-- what was done at a worker: jobs taken off its ring, jobs put after those in it, and jobs finished; its hand and its legs
-- from then on
pub record Worked : Type 0 where
  pub worker : ℕ
  pub taken : List Job
  pub put : List Job
  pub finished : List Job
  pub hand : Hand
  pub legs : List LegState

-- a job that was given up, since its worker's ring was full
pub record GivenUp : Type 0 where
  pub worker : ℕ
  pub job : Job

-- What an event did: accepted calls of the room; tasks made, and tasks done; recorded calls of desks, and the publishers whose
-- desks recorded none since their histories are full; changes of rows; what was done at workers; jobs given up; the
-- notification that waits from then on; the round of reports from then on; TMMBNs heard; and what was given out.
pub record Happening : Type 0 where
  pub calls : List RoomCall
  pub made : List Task
  pub did : List Task
  pub asked : List RecordedCall
  pub unrecorded : List ℕ
  pub changes : List Change
  pub worked : List Worked
  pub given_up : List GivenUp
  pub pending : Option Pending
  pub round : Round
  pub tmmbns : ℕ
  pub outs : List Out

-- nothing is done, and this is given out
abbrev pub giving : WorldState → List Out → Happening
giving w outs = record {
  calls = [];
  made = [];
  did = [];
  asked = [];
  unrecorded = [];
  changes = [];
  worked = [];
  given_up = [];
  pending = w.pending;
  round = w.round;
  tmmbns = 0;
  outs = outs;
}

-- a count that stays at its greatest once it is there
abbrev pub capped_count : ℕ → ℕ → ℕ
capped_count count more = min (count + more) (2 ^ 64 - 1)

abbrev pub no_worker : WorkerState
no_worker = record { jobs = []; hand = free; legs = [] }

abbrev pub worker_after : WorkerState → Worked → WorkerState
worker_after s d =
    record { jobs = drop (length d.taken) s.jobs ++ d.put; hand = d.hand; legs = d.legs }

abbrev pub workers_by : List WorkerState → Worked → List WorkerState
workers_by workers d =
    slice_set workers d.worker (worker_after (slice_index_or workers d.worker no_worker) d)

abbrev pub desks_by : List DeskState → RecordedCall → List DeskState
desks_by desks a = slice_set desks a.publisher a.desk

-- the world after what was done
abbrev pub world_after : WorldState → Happening → WorldState
world_after w h = record {
  setup = w.setup;
  room = room_after w.room h.calls;
  tasks = drop (length h.did) w.tasks ++ h.made;
  pending = h.pending;
  desks = fold desks_by w.desks h.asked;
  rows = fold row_changed w.rows h.changes;
  workers = fold workers_by w.workers h.worked;
  round = h.round;
  lost = capped_count w.lost (length h.given_up);
  tmmbns = capped_count w.tmmbns h.tmmbns;
}
