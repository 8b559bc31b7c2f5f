use Rattle.conference.proofs.ServedLemmas.{new_conference}
use Rattle.conference.proofs.conference.new_world.Goals as goal

pub returns-clause-is_new : goal.returns-clause-is_new
returns-clause-is_new c = λ limit.
    new_conference c.args.settings.now c.in_ok-world.world limit c.workers-workers.ensures.range c.in_ok-world.ensures c.requires.one
