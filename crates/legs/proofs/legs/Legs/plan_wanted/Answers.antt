use Rattle.std.proofs.Common.{ap, sym, ◌∙◌}
use Rattle.legs.specs.Planning.{resends}
use Rattle.legs.proofs.LegLemmas.{unplanned, moved, nowhere_resend, standing_resend}
use Rattle.legs.proofs.legs.Legs.plan_wanted.Goals as goal

pub returns-in_default : goal.returns-in_default
returns-in_default c =
    unplanned _ _ (nowhere_resend c.args.rows.now c.args.leg c.args.stay c.args.nack c.args.self.now c.in_default.ensures)

pub returns : goal.returns
returns c =
    moved c.plan_resends.result c.plan_resends.new.plan c.args.plan.now _ _
    (ap (resends c.in-Some.place c.in-Some.leg.now) (c.as_slice.ensures.value ∙ c.lost-numbers.ensures)
    ∙ sym (standing_resend c.args.rows.now c.args.leg c.args.stay c.in-Some.place c.args.nack c.args.self.now c.in-Some.leg.now c.in-Some.ensures))
    c.plan_resends.ensures
