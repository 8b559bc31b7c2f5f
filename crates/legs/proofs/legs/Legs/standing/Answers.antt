use Rattle.std.proofs.Common.{◌≡◌, ℕ, ap, sym, subst, refl, length, arith, Some, None, List, ◌∙◌}
use Rattle.std.specs.Prelude.{slice_get}
use Rattle.std.specs.List.{enumerate_from}
use Rattle.std.proofs.lemmas.Option.{slice_get_read}
use Rattle.members.specs.declared.order.Row.{Row}
use Rattle.legs.specs.declared.leg.LegState.{LegState}
use Rattle.legs.specs.Planning.{leg_place, IsNowhere, IsStandingAt}
use Rattle.legs.proofs.LegLemmas.{nowhere_without, nowhere_other, found_number, found_within, standing_at}
use Rattle.legs.proofs.legs.Legs.standing.Goals as goal

pub returns-in_default : goal.returns-in_default
returns-in_default c =
    let legs = c.self.inside.legs.items in
    let none : leg_place c.args.number (enumerate_from 0 legs) ≡ None =
    sym (c.self.invariant.finds_places c.args.number) ∙ sym c.in_default.ensures.value in
    subst (IsNowhere c.args.rows.now c.args.number c.args.stay) c.self.view_is
    (nowhere_without c.args.rows.now c.args.number c.args.stay legs none)

pub returns-in_default-get : goal.returns-in_default-get
returns-in_default-get c = λ k d below. absurd (
    let legs = c.self.inside.legs.items in
    let found : leg_place c.args.number (enumerate_from 0 legs) ≡ Some c.in-Some.place.now =
    sym (c.self.invariant.finds_places c.args.number) ∙ sym c.in-Some.ensures.value in
    let within = found_within c.args.number c.in-Some.place.now legs found in
    let count = c.in_default-get.ensures.lookup.3 in
    let held = ap length c.deref.ensures.value in
    let same = c.from.ensures in
    omega arith)

pub returns-then-row-stay : goal.returns-then-row-stay
returns-then-row-stay c =
    let legs = c.self.inside.legs.items in
    let place = c.in-Some.place.now in
    let leg = c.in-Some-get.leg.now in
    let found : leg_place c.args.number (enumerate_from 0 legs) ≡ Some place =
    sym (c.self.invariant.finds_places c.args.number) ∙ sym c.in-Some.ensures.value in
    let read = slice_get_read c.deref.result.now (length c.deref.result.now) c.from.result leg refl c.in-Some-get.ensures.lookup.3.0 c.in-Some-get.ensures.lookup.1 in
    let held : slice_get legs c.from.result ≡ Some leg = subst (λ (l : List LegState). slice_get l c.from.result ≡ Some leg) c.deref.ensures.value read in
    let at : slice_get legs place ≡ Some leg = subst (λ (k : ℕ). slice_get legs k ≡ Some leg) c.from.ensures held in
    let number = found_number c.args.number place legs leg found at in
    let stay = ap (λ (r : Row). r.stay) c.row_of-row.ensures in
    subst (IsNowhere c.args.rows.now c.args.number c.args.stay) c.self.view_is
    (nowhere_other c.args.rows.now c.args.number c.args.stay place legs leg c.self.invariant.rising at number
    (λ e. c.if-row-stay.true (stay ∙ e)))

pub returns : goal.returns
returns c =
    let legs = c.self.inside.legs.items in
    let place = c.in-Some.place.now in
    let leg = c.in-Some-get.leg.now in
    let found : leg_place c.args.number (enumerate_from 0 legs) ≡ Some place =
    sym (c.self.invariant.finds_places c.args.number) ∙ sym c.in-Some.ensures.value in
    let read = slice_get_read c.deref.result.now (length c.deref.result.now) c.from.result leg refl c.in-Some-get.ensures.lookup.3.0 c.in-Some-get.ensures.lookup.1 in
    let held : slice_get legs c.from.result ≡ Some leg = subst (λ (l : List LegState). slice_get l c.from.result ≡ Some leg) c.deref.ensures.value read in
    let at : slice_get legs place ≡ Some leg = subst (λ (k : ℕ). slice_get legs k ≡ Some leg) c.from.ensures held in
    let number = found_number c.args.number place legs leg found at in
    let stay = ap (λ (r : Row). r.stay) c.row_of-row.ensures in
    subst (λ (l : List LegState). IsStandingAt c.args.rows.now c.args.number c.args.stay l place leg) c.self.view_is
    (standing_at c.args.rows.now c.args.number c.args.stay place legs leg c.self.invariant.rising at number c.if-stay-eq0.false
    (sym stay ∙ c.if-row-stay.false))
