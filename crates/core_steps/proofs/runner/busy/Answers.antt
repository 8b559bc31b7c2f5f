use Rattle.std.proofs.Common.{[], ◌∷◌}
use Rattle.events.specs.declared.output.Out.TheVariants.{Busy}
use Rattle.core_steps.specs.Machine.{whole}
use Rattle.core_steps.proofs.RunLemmas.{Leaves-giving}
use Rattle.core_steps.proofs.runner.busy.Goals as goal

pub returns-clause-ok : goal.returns-clause-ok
returns-clause-ok c =
    λ rest lost. Leaves-giving (whole c.args.front.now rest) (Busy ∷ []) c.args.outs.now.items c.push.new.self.items lost
    c.knows_count.ensures c.in_ok-push.ensures.items
