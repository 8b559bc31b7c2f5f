use Rattle.core_steps.proofs.WorldLemmas.{workers-more}
use Rattle.core_steps.proofs.world.new_workers.Goals as goal

pub loop-number-preserved : goal.loop-number-preserved
loop-number-preserved c =
    workers-more c.args.settings.now c.loop-number.number c.loop-number.workers.items c.push.new.self.items c.in_ok-new_worker.field-0
    c.in_ok-push.ensures.items c.loop-number.invariant c.in_ok-new_worker.ensures
