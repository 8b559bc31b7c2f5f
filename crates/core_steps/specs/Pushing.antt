-- A job after those in a worker's ring.
use Rattle.std.specs.Prelude.{◌≡◌, ℕ, nat_le, Bool, false, List, length, Option, None, Some, if◌then◌else◌}
use Rattle.events.specs.declared.job.Job.{Job}
use Rattle.core_steps.specs.declared.ring.TheConstants.{JOB_LIMIT}
use Rattle.core_steps.specs.World.{WorkerState}
use Rattle.core_steps.specs.Happening.{workers_by}
use Rattle.core_steps.specs.Rule.{putting}

-- whether the job was given up, and the workers from then on
abbrev pub Pushed : ℕ → Job → List WorkerState → Option WorkerState → Bool → List WorkerState
    → Type 0
Pushed k job workers None lost new = (lost ≡ false) × (new ≡ workers)
Pushed k job workers (Some s) lost new =
    (lost ≡ nat_le JOB_LIMIT (length s.jobs))
    × (new ≡ (if lost then workers else workers_by workers (putting k s job)))
