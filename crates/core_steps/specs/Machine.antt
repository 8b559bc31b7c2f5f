-- The world that the machine's parts stand for.
use Rattle.std.specs.Prelude.{◌≡◌, ◌<◌, ◌^◌, ℕ, List, [], ◌++◌, map, drop, Option, None, option_map}
use Rattle.desk.specs.State.{DeskState}
use Rattle.desk.specs.declared.effect.Effect.{Effect}
use Rattle.members.specs.declared.order.Row.{Row}
use Rattle.core_steps.specs.declared.machine.Machine.{Machine}
use Rattle.core_steps.specs.declared.front.Front.{Front}
use Rattle.core_steps.specs.declared.front.Setup.{Setup as SetupParts}
use Rattle.core_steps.specs.declared.machine.Worker.{Worker}
use Rattle.core_steps.specs.declared.machine.Hand.{Hand as HandParts}
use Rattle.core_steps.specs.declared.machine.Hand.TheVariants.{Free, Doing, Telling}
use Rattle.core_steps.specs.declared.tasks.Tasks.{Tasks}
use Rattle.core_steps.specs.declared.tasks.FollowUp.{FollowUp}
use Rattle.core_steps.specs.declared.tasks.NextTask.{NextTask}
use Rattle.core_steps.specs.declared.tasks.NextTask.TheVariants.{Order as AnOrder, FollowUp as Follows}
use Rattle.core_steps.specs.declared.tasks.FollowUp.TheVariants.{Push, Pulse, Expire, Report}
use Rattle.core_steps.specs.Seed.{job_of}
use Rattle.core_steps.specs.World.{Setup, Task, order, push, pulse, expire, report, Hand, free, doing, telling, WorkerState, WorldState}
use Rattle.desk_calls.specs.Notification.{Pending, pending_with}

-- the task that follows, if the datagram has these bytes
abbrev pub task_of : List ℕ → FollowUp → Task
task_of bytes (Push worker seed) = push worker (job_of bytes seed)
task_of bytes (Pulse publisher) = pulse publisher
task_of bytes (Expire publisher) = expire publisher
task_of bytes (Report publisher) = report publisher

abbrev pub task_in : List ℕ → NextTask → Task
task_in bytes (AnOrder o) = order o
task_in bytes (Follows next) = task_of bytes next

-- those that aren't done yet
abbrev pub tasks_of : Tasks → List Task
tasks_of t = map order (drop t.orders_done t.orders.items)
    ++ map (task_of t.datagram) (drop t.follow_ups_done t.follow_ups.items)

abbrev pub hand_in : Effect → HandParts → Hand
hand_in effect Free = free
hand_in effect (Doing job) = doing job
hand_in effect (Telling n) = telling (pending_with effect n)

abbrev pub worker_state : Worker → WorkerState
worker_state w = record { jobs = w.jobs; hand = hand_in w.effect w.hand; legs = w.legs }

abbrev pub setup_of : SetupParts → Setup
setup_of s =
    record {
      table = s.links;
      unit = s.head;
      request_ms = s.request_ms;
      report_ms = s.pace.period_ms;
      report_slots = s.pace.slots;
      rules = s.rules;
    }

-- what the machine has beside its front
pub record Rest : Type 0 where
  pub pending : Option Pending
  pub desks : List DeskState
  pub rows : List Row
  pub workers : List WorkerState
  pub lost : ℕ

-- the world of a front and what stands beside it
abbrev pub whole : Front → Rest → WorldState
whole f rest = record {
  setup = setup_of f.setup;
  room = f.room;
  tasks = tasks_of f.tasks;
  pending = rest.pending;
  desks = rest.desks;
  rows = rest.rows;
  workers = rest.workers;
  round = f.round;
  lost = rest.lost;
  tmmbns = f.tmmbns;
}

abbrev pub no_rest : Rest
no_rest = record { pending = None; desks = []; rows = []; workers = []; lost = 0 }

-- the world of a front with nothing beside it
abbrev pub alone : Front → WorldState
alone f = whole f no_rest

-- no notification waits there, and the count fits its type
abbrev pub IsIdle : Rest → Type 0
IsIdle rest = (rest.pending ≡ None) × (rest.lost < 2 ^ 64)

abbrev pub rest_of : Machine → Rest
rest_of m = record {
  pending = option_map (pending_with m.effect) m.pending;
  desks = m.desks.items;
  rows = m.rows.items;
  workers = map worker_state m.workers.items;
  lost = m.lost;
}

abbrev pub state_of : Machine → WorldState
state_of m = whole m.front (rest_of m)
