use Rattle.std.proofs.Common.{◌≡◌, length, map, take}
use Rattle.std.specs.Prelude.{sum_by}
use Rattle.core_steps.specs.Machine.{worker_state}
use Rattle.core_steps.specs.Waits.{as_counted}
use Rattle.core_steps.specs.World.{WorkerState}
use Rattle.core_steps.proofs.world.jobs_waiting.Given as goal

abbrev pub invariant-loop-worker : goal.invariant-loop-worker
invariant-loop-worker l =
    l.jobs ≡ as_counted (sum_by (λ (s : WorkerState). length s.jobs) (map worker_state (take l.worker-index l.workers)))
