use Rattle.std.proofs.Common.{ap, sym, ◌∙◌}
use Rattle.std.specs.Prelude.{slice_set}
use Rattle.legs.specs.declared.leg.LegState.{LegState}
use Rattle.legs.specs.Legs.{leg_after_packet}
use Rattle.legs.proofs.PlanLemmas.{changed_within, changed_past}
use Rattle.legs.proofs.plan.keep_at.Goals as goal

pub returns-then-place-legs : goal.returns-then-place-legs
returns-then-place-legs c =
    let f = λ (s : LegState). leg_after_packet s c.args.numbers c.args.number c.args.octets c.args.packet in
    ap (slice_set c.args.legs.now c.args.place) c.keep.ensures
    ∙ sym (changed_within c.args.legs.now c.args.place f c.index-legs-place.result c.if-place-legs.true)

pub returns-else-place-legs : goal.returns-else-place-legs
returns-else-place-legs c = sym (changed_past c.args.legs.now c.args.place _ c.if-place-legs.false)
