use Rattle.std.proofs.Common.{ap, sym, refl, [], ◌∷◌, ◌∙◌}
use Rattle.legs.specs.declared.plan.Planned.{Planned}
use Rattle.legs.proofs.LegLemmas.{unplanned, pushed, nowhere_report, standing_report}
use Rattle.legs.proofs.legs.Legs.plan_reported.Goals as goal

pub returns-in_default : goal.returns-in_default
returns-in_default c =
    unplanned _ _ (nowhere_report c.args.rows.now c.args.leg c.args.stay c.args.sr c.args.self.now c.in_default.ensures)

pub returns : goal.returns
returns c =
    pushed c.push.result c.push.new.self c.args.plan.now c.args.plan.now _ c.in_ok-planned.planned refl
    (ap (λ (p : Planned). p ∷ []) c.in_ok-planned.ensures
    ∙ sym (standing_report c.args.rows.now c.args.leg c.args.stay c.in-Some.field-0-0 c.args.sr c.args.self.now c.in-Some.leg.now c.in-Some.ensures))
    c.push.ensures.ok
