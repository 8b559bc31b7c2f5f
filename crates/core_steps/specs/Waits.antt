-- What waits in a world.
use Rattle.std.specs.Prelude.{ℕ, ◌+◌, ◌-◌, ◌^◌, min, Bool, true, false, List, [], ◌∷◌, length, slice_get, sum_by, Option, None, Some}
use Rattle.events.specs.declared.job.Job.{Job}
use Rattle.core_steps.specs.declared.world.Waiting.{Waiting}
use Rattle.core_steps.specs.World.{WorldState, WorkerState, Hand, free, doing, telling}
use Rattle.desk_calls.specs.Notification.{Pending}

abbrev pub pending_count : Option Pending → ℕ
pending_count None = 0
pending_count (Some p) = 1

abbrev pub hand_count : Hand → ℕ
hand_count free = 0
hand_count (doing job) = 1
hand_count (telling p) = 1

-- a count stays at its greatest once it is there
abbrev pub as_counted : ℕ → ℕ
as_counted n = min n (2 ^ 64 - 1)

-- the tasks of the ingress with the notification that waits, the jobs in all rings, the workers with something in hand
abbrev pub waiting_in : WorldState → Waiting
waiting_in w = record {
  tasks = length w.tasks + pending_count w.pending;
  jobs = as_counted (sum_by (λ (s : WorkerState). length s.jobs) w.workers);
  hands = as_counted (sum_by (λ (s : WorkerState). hand_count s.hand) w.workers);
}

-- a job waits, or something is in the hand
abbrev pub works_more : Hand → List Job → Bool
works_more free [] = false
works_more free (job ∷ jobs) = true
works_more (doing job) jobs = true
works_more (telling p) jobs = true

abbrev pub worker_has_work : Option WorkerState → Bool
worker_has_work None = false
worker_has_work (Some s) = works_more s.hand s.jobs

-- the worker of this number is there, and has something to do
abbrev pub has_work : WorldState → ℕ → Bool
has_work w k = worker_has_work (slice_get w.workers k)
