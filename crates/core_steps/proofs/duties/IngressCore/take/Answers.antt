use Rattle.std.proofs.Common.{List, ℕ, subst}
use Rattle.std.specs.Prelude.{OnOk}
use Rattle.datagram.specs.Reads.{admission_of}
use Rattle.events.specs.declared.event.Event.TheVariants.{Hear}
use Rattle.core_steps.specs.Hearing.{SaysTaken}
use Rattle.core_steps.specs.Machine.{alone}
use Rattle.core_steps.specs.Rule.{Does}
use Rattle.core_steps.specs.Run.{Leaves}
use Rattle.core_steps.specs.World.{WorldState}
use Rattle.core_steps.proofs.duties.IngressCore.take.Goals as goal

pub returns-clause-ok : goal.returns-clause-ok
returns-clause-ok c =
    subst (λ (w : WorldState). (bytes : List ℕ) → SaysTaken w (admission_of c.args.taking) bytes
    → OnOk c.take_or_busy.result (Leaves (Does w (Hear c.args.moment c.args.taking.endpoint bytes)) w c.args.outs.now.items
    (alone c.take_or_busy.new.front) c.take_or_busy.new.outs.items)) c.self.view_is c.take_or_busy.ensures.ok
