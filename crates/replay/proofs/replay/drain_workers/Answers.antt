use Rattle.std.proofs.Common.{◌≡◌, ◌∙◌, rules}
use Rattle.replay.proofs.ReplayLemmas.{workers_on, workers_over}
use Rattle.replay.proofs.replay.drain_workers.Goals as goal

pub loop-worker-preserved : goal.loop-worker-preserved
loop-worker-preserved c =
    let drained = c.in_ok-drain_worker.ensures.drained in record {
      desks = c.in_ok-drain_worker.ensures.desks ∙ c.loop-worker.invariant.desks;
      drained = workers_on c.args.workers c.loop-worker.worker c.args.world.now c.loop-worker.world c.drain_worker.new.world
          c.args.outs.now.items c.loop-worker.outs.items c.drain_worker.new.outs.items drained.0
          c.loop-worker.invariant.drained drained.1 drained.2;
      ingress = c.in_ok-drain_worker.ensures.ingress ∙ c.loop-worker.invariant.ingress;
    }

pub returns-clause-drained : goal.returns-clause-drained
returns-clause-drained c =
    let all : c.args.workers ≡ c.loop-worker.worker = search rules in
    workers_over c.args.workers c.loop-worker.worker c.args.world.now c.loop-worker.world c.args.outs.now.items
    c.loop-worker.outs.items all c.loop-worker.invariant.drained
