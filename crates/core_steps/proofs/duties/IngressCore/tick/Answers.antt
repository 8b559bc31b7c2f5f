use Rattle.std.proofs.Common.{subst}
use Rattle.std.specs.Prelude.{OnOk}
use Rattle.events.specs.declared.event.Event.TheVariants.{Tick}
use Rattle.core_steps.specs.Machine.{alone}
use Rattle.core_steps.specs.Rule.{Does}
use Rattle.core_steps.specs.Run.{Leaves}
use Rattle.core_steps.specs.World.{WorldState}
use Rattle.core_steps.proofs.duties.IngressCore.tick.Goals as goal

pub returns-clause-ok : goal.returns-clause-ok
returns-clause-ok c =
    subst (λ (w : WorldState). OnOk c.tick_or_busy.result (Leaves (Does w (Tick c.args.moment)) w c.args.outs.now.items
    (alone c.tick_or_busy.new.front) c.tick_or_busy.new.outs.items)) c.self.view_is c.tick_or_busy.ensures.ok
