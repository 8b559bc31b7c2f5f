-- How much is left to do before a world settles; each step leaves less.
use Rattle.std.specs.Prelude.{ℕ, ◌+◌, ◌*◌, length, slice_index_or}
use Rattle.core_steps.specs.Happening.{no_worker}
use Rattle.core_steps.specs.Waits.{pending_count}
use Rattle.core_steps.specs.World.{WorldState, WorkerState, Hand, free, doing, telling}

-- a task may leave a notification to tell
abbrev pub ingress_left : WorldState → ℕ
ingress_left w = 2 * length w.tasks + pending_count w.pending

-- a job is taken, done, and may leave a notification to tell
abbrev pub hand_left : Hand → ℕ
hand_left free = 0
hand_left (doing job) = 2
hand_left (telling p) = 1

abbrev pub state_left : WorkerState → ℕ
state_left s = 3 * length s.jobs + hand_left s.hand

abbrev pub work_left : WorldState → ℕ → ℕ
work_left w k = state_left (slice_index_or w.workers k no_worker)
