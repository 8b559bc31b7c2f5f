use Rattle.std.proofs.Common.{◌≡◌, List, length, sym, ap, subst, rules, ◌∙◌}
use Rattle.legs.specs.declared.leg.LegState.{LegState}
use Rattle.legs.specs.Plan.{legs_after_plan}
use Rattle.legs.specs.Planning.{AreFound}
use Rattle.legs.proofs.LegLemmas.{found_applied, whole_written}
use Rattle.legs.proofs.legs.Legs.apply.Goals as goal

pub invariant_of-self : goal.invariant_of-self
invariant_of-self c =
    let P : List LegState → Type 0 = AreFound c.self.inside.published.items c.self.inside.places in
    let new = c.apply_to.new.legs in
    let value = c.as_mut_slice.ensures.value in
    let kept : length new ≡ length c.self.inside.legs.items = c.apply_to.auto.legs ∙ ap length value in
    let size : c.self.inside.legs.len ≡ length c.self.inside.legs.items = search rules in
    let written = whole_written new c.self.inside.legs.items c.self.inside.legs.len size kept in
    let found = found_applied c.self.inside.published.items c.self.inside.places c.self.inside.legs.items c.args.plan.now c.self.invariant in
    let made = c.apply_to.ensures.legs ∙ ap (λ (l : List LegState). legs_after_plan l c.args.plan.now) value in
    subst P (sym written) (subst P (sym made) found)
