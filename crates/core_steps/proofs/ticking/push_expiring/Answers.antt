use Rattle.std.proofs.Common.{◌∙◌, ◌++◌, Bool, [], ap, map, sym}
use Rattle.std.proofs.lemmas.Bool.{ne_eqb}
use Rattle.std.specs.Prelude.{if◌then◌else◌}
use Rattle.core_steps.specs.declared.ticking.Due.TheVariants.{Expire}
use Rattle.core_steps.specs.FollowUps.{tasks_due}
use Rattle.core_steps.specs.Machine.{task_of}
use Rattle.core_steps.proofs.ticking.push_expiring.Goals as goal

pub returns-then-setup-ne0-clause-items : goal.returns-then-setup-ne0-clause-items
returns-then-setup-ne0-clause-items c =
    λ bits. c.push_due.ensures.items bits
    ∙ ap (λ (b : Bool). map (task_of bits) c.args.follow_ups.now.items
    ++ (if b then [] else tasks_due Expire c.args.room.now c.args.endpoints))
    (sym (ne_eqb c.args.setup.now.request_ms 0 c.if-setup-ne0.true))
