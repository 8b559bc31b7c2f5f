use Rattle.std.proofs.Common.{ap}
use Rattle.replay.specs.declared.script.Numbers.{Numbers}
use Rattle.replay.proofs.ReplayLemmas.{settled}
use Rattle.replay.proofs.replay.settle.Goals as goal

pub returns-clause-settled : goal.returns-clause-settled
returns-clause-settled c =
    settled c.numbers_of-numbers.result.workers c.args.settings.now.workers c.args.world.now c.drain_ingress.new.world c.drain_workers.new.world
    c.args.outs.now.items c.drain_ingress.new.outs.items c.drain_workers.new.outs.items c.drain_workers.result
    (ap (λ (n : Numbers). n.workers) c.numbers_of-numbers.ensures) c.in_ok-drain_ingress.ensures.drained c.drain_workers.ensures.drained
