use Rattle.std.proofs.Common.{◌≡◌, map, take}
use Rattle.std.specs.Prelude.{sum_by}
use Rattle.core_steps.specs.Machine.{worker_state}
use Rattle.core_steps.specs.Waits.{as_counted, hand_count}
use Rattle.core_steps.specs.World.{WorkerState}
use Rattle.core_steps.proofs.world.hands_full.Given as goal

abbrev pub invariant-loop-worker : goal.invariant-loop-worker
invariant-loop-worker l =
    l.hands ≡ as_counted (sum_by (λ (s : WorkerState). hand_count s.hand) (map worker_state (take l.worker-index l.workers)))
