use Rattle.std.proofs.Common.{◌≡◌, ◌≤◌, ℕ, ap, subst, refl, length, true, false, arith, rules, Some, [], ◌∷◌, ◌∙◌}
use Rattle.std.specs.Prelude.{slice_get}
use Rattle.std.proofs.lemmas.Bool.Decides.{nat_tests}
use Rattle.std.proofs.lemmas.Option.{slice_get_read}
use Rattle.legs.specs.declared.plan.Planned.{Planned}
use Rattle.legs.proofs.LegLemmas.{unplanned, pushed, no_leg, row_off, row_on, negated, not_negated}
use Rattle.legs.proofs.legs.plan_place.Goals as goal

pub returns-in_default : goal.returns-in_default
returns-in_default c =
    let count = c.in_default.ensures.lookup.3 in
    let same = c.from.ensures in
    let past : length c.args.legs.now ≤ c.args.place = omega arith in
    unplanned _ _ (no_leg c.args.rows.now c.args.packet.now c.args.place c.args.legs.now past)

pub returns-then-not-row : goal.returns-then-not-row
returns-then-not-row c =
    let leg = c.in-Some.leg.now in
    let read = slice_get_read c.args.legs.now (length c.args.legs.now) c.from.result leg refl c.in-Some.ensures.lookup.3.0 c.in-Some.ensures.lookup.1 in
    let at : slice_get c.args.legs.now c.args.place ≡ Some leg = subst (λ (k : ℕ). slice_get c.args.legs.now k ≡ Some leg) c.from.ensures read in
    let test = c.if-not-row.true in
    let quiet : c.row_of-row.result.on ≡ false = first_of (assumption, cc, search (rules, negated), grind (arith, nat_tests)) in
    unplanned _ _ (row_off c.args.rows.now c.args.packet.now c.args.place c.args.legs.now leg c.row_of-row.result at c.row_of-row.ensures quiet)

pub returns : goal.returns
returns c =
    let leg = c.in-Some.leg.now in
    let read = slice_get_read c.args.legs.now (length c.args.legs.now) c.from.result leg refl c.in-Some.ensures.lookup.3.0 c.in-Some.ensures.lookup.1 in
    let at : slice_get c.args.legs.now c.args.place ≡ Some leg = subst (λ (k : ℕ). slice_get c.args.legs.now k ≡ Some leg) c.from.ensures read in
    let test = c.if-not-row.false in
    let loud : c.row_of-row.result.on ≡ true = first_of (assumption, cc, search (rules, not_negated), grind (arith, nat_tests)) in
    let all = row_on c.args.rows.now c.args.packet.now c.args.place c.args.legs.now leg c.row_of-row.result at c.row_of-row.ensures loud in
    pushed c.push.result c.push.new.self c.plan_packet.new.plan c.args.plan.now _ c.in_ok-planned.planned c.in_ok-planned.ensures.plan
    (ap (λ (p : Planned). p ∷ []) c.in_ok-planned.ensures.ok ∙ all) c.push.ensures.ok
