use Rattle.core_steps.proofs.IngressLemmas.{pushed_there, pushed_nowhere}
use Rattle.core_steps.proofs.ingress.is_given_up.Goals as goal

pub returns-then-at-workers : goal.returns-then-at-workers
returns-then-at-workers c =
    pushed_there c.args.workers.now c.args.worker c.from-at.result c.index-workers-at.result c.args.job c.put.new.ring c.put.result c.from-at.ensures
    c.if-at-workers.true
    c.put.ensures.full
    c.put.ensures.jobs

pub returns-else-at-workers : goal.returns-else-at-workers
returns-else-at-workers c = pushed_nowhere c.args.workers.now c.args.worker c.from-at.result c.args.job c.from-at.ensures c.if-at-workers.false
