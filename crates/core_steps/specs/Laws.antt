-- What the laws of runs speak of.
use Rattle.std.specs.Prelude.{◌≡◌, ◌==◌, ℕ, ◌≤◌, List, [], length, slice_get, slice_index_or, Some, if◌then◌else◌}
use Rattle.std.specs.List.{flat_map}
use Rattle.bounding_set.specs.State.{announced_of}
use Rattle.desk.specs.State.{HoldsLegalDesk}
use Rattle.events.specs.declared.job.Job.{Job}
use Rattle.core_steps.specs.declared.ring.TheConstants.{JOB_LIMIT}
use Rattle.core_steps.specs.Happening.{Happening, GivenUp, RecordedCall, Worked, no_worker}
use Rattle.core_steps.specs.World.{WorldState, WorkerState}

-- The desk is legal after the call, and the set that the call's effect shows is the one that is announced then.
pub record TellsLegalDesk (a : RecordedCall) : Type 0 where
  pub legal : HoldsLegalDesk a.desk
  pub announced : a.effect.set.items ≡ announced_of a.desk.bounds

-- the ring of the job's worker holds as many jobs as may wait
pub record IsGivenUpFull (w : WorldState) (g : GivenUp) : Type 0 where
  pub state : WorkerState
  pub there : slice_get w.workers g.worker ≡ Some state
  pub full : JOB_LIMIT ≤ length state.jobs

-- the jobs that wait for this worker
abbrev pub jobs_at : ℕ → WorldState → List Job
jobs_at k w = (slice_index_or w.workers k no_worker).jobs

-- what was taken off the ring of this worker, and what was put into it
abbrev pub taken_by : ℕ → Worked → List Job
taken_by k d = if d.worker == k then d.taken else []

abbrev pub put_by : ℕ → Worked → List Job
put_by k d = if d.worker == k then d.put else []

abbrev pub taken_at : ℕ → Happening → List Job
taken_at k h = flat_map (taken_by k) h.worked

abbrev pub put_at : ℕ → Happening → List Job
put_at k h = flat_map (put_by k) h.worked
