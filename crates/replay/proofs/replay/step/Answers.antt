use Rattle.std.proofs.Common.{ap, length, ◌∙◌}
use Rattle.core_steps.specs.World.{WorldState}
use Rattle.core_steps.proofs.EndingLemmas.{length-desks}
use Rattle.replay.proofs.replay.step.Goals as goal

pub returns-in-Ok-clause-desks : goal.returns-in-Ok-clause-desks
returns-in-Ok-clause-desks c =
    ap (λ (w : WorldState). length w.desks) c.in-Ok.ensures.ok.leads ∙ length-desks c.args.world.now c.in-Ok.ensures.ok.history
