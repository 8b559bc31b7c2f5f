use Rattle.std.proofs.Common.{◌≡◌, ◌∙◌, ℕ, get_or, length, ap}
use Rattle.core_steps.specs.declared.machine.Worker.{Worker}
use Rattle.core_steps.specs.Machine.{worker_state}
use Rattle.core_steps.specs.World.{WorkerState}
use Rattle.core_steps.proofs.WorldLemmas.{counted-more, sums-more}
use Rattle.core_steps.proofs.world.jobs_waiting.Goals as goal

abbrev waiting : WorkerState → ℕ
waiting s = length s.jobs

pub loop-worker-preserved : goal.loop-worker-preserved
loop-worker-preserved c =
    let workers = c.args.workers.now in
    let at = c.loop-worker.worker-index in
    let more = sums-more waiting workers at c.worker-item.result c.loop-worker-test.true in
    let item : c.len-more.result ≡ waiting (worker_state (get_or workers at c.worker-item.result)) = c.len-more.ensures.value ∙ ap (λ (w : Worker). waiting (worker_state w)) c.worker-item.is in
    counted-more _ _ _ _ _ _ c.loop-worker.invariant item more c.saturating_add-jobs.ensures
