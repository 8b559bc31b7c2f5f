use Rattle.std.proofs.Common.{◌≡◌, ◌∙◌, ℕ, get_or, ap}
use Rattle.core_steps.specs.declared.machine.Worker.{Worker}
use Rattle.core_steps.specs.Machine.{worker_state}
use Rattle.core_steps.specs.Waits.{hand_count}
use Rattle.core_steps.specs.World.{WorkerState}
use Rattle.core_steps.proofs.WorldLemmas.{counted-more, sums-more}
use Rattle.core_steps.proofs.world.hands_full.Goals as goal

abbrev full : WorkerState → ℕ
full s = hand_count s.hand

pub loop-worker-preserved : goal.loop-worker-preserved
loop-worker-preserved c =
    let workers = c.args.workers.now in
    let at = c.loop-worker.worker-index in
    let more = sums-more full workers at c.worker-item.result c.loop-worker-test.true in
    let item : c.hand_full-more.result ≡ full (worker_state (get_or workers at c.worker-item.result)) = c.hand_full-more.ensures.value c.worker-item.result.effect ∙ ap (λ (w : Worker). full (worker_state w)) c.worker-item.is in
    counted-more _ _ _ _ _ _ c.loop-worker.invariant item more c.saturating_add-hands.ensures
