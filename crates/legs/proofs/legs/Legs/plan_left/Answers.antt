use Rattle.std.proofs.Common.{ap, sym, refl, [], ◌∷◌, ◌∙◌}
use Rattle.legs.specs.declared.plan.Planned.{Planned}
use Rattle.legs.proofs.LegLemmas.{unplanned, pushed, nowhere_goodbye, numbered_goodbye}
use Rattle.legs.proofs.legs.Legs.plan_left.Goals as goal

pub returns-in_default : goal.returns-in_default
returns-in_default c = λ rows.
    unplanned _ _ (nowhere_goodbye rows c.args.leg c.args.self.now c.in_default.ensures)

pub returns : goal.returns
returns c = λ rows.
    pushed c.push.result c.push.new.self c.args.plan.now c.args.plan.now _ c.in_ok-planned.planned refl
    (ap (λ (p : Planned). p ∷ []) c.in_ok-planned.ensures
    ∙ sym (numbered_goodbye rows c.args.leg c.args.self.now c.in-Some.leg.now c.in-Some.ensures))
    c.push.ensures.ok
