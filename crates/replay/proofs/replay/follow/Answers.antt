use Rattle.std.proofs.Common.{ap}
use Rattle.replay.specs.declared.script.Numbers.{Numbers}
use Rattle.replay.proofs.ReplayLemmas.{followed}
use Rattle.replay.proofs.replay.follow.Goals as goal

pub returns-clause-followed : goal.returns-clause-followed
returns-clause-followed c =
    followed c.numbers_of-workers.result.workers c.args.settings.now.workers c.args.world.now c.drain_workers.new.world c.make_rounds.new.world
    c.args.outs.now.items c.drain_workers.new.outs.items c.make_rounds.new.outs.items c.make_rounds.result
    (ap (λ (n : Numbers). n.workers) c.numbers_of-workers.ensures) c.in_ok-drain_workers.ensures.drained c.make_rounds.ensures.made
