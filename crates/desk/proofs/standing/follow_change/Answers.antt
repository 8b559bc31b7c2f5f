use Rattle.std.proofs.Common.{◌≡◌, Some, None, sym, ap, subst, ◌∙◌, refl}
use Rattle.bounding_set.specs.Rows.{Puts}
use Rattle.desk.specs.declared.presence.Present.{Present}
use Rattle.desk.specs.Presence.{live_requests, present_changed, refusal_in}
use Rattle.desk.proofs.LiveLemmas.{live-requested, live-departed, live-arrived}
use Rattle.desk.proofs.StandingLemmas.{from_ok, never_full}
use Rattle.desk.proofs.standing.follow_change.Goals as goal

pub unwrap-changed-requires : goal.unwrap-changed-requires
unwrap-changed-requires c =
    never_full c.args.before.now c.args.bounds.now c.args.owner.0 c.args.stay c.set.result c.requires.stand c.requires.stays
    (subst (λ change. refusal_in c.args.before.now.present.items c.args.owner.0 c.args.stay change ≡ None) c.in-Request.is c.requires.accepted)
    c.set.ensures.full

pub returns-in-Request-clause-live : goal.returns-in-Request-clause-live
returns-in-Request-clause-live c =
    let before = c.args.before.now in
    let present = before.present.items in
    let owner = c.args.owner in
    let ok = never_full before c.args.bounds.now owner.0 c.args.stay c.set.result c.requires.stand c.requires.stays
    (subst (λ change. refusal_in present owner.0 c.args.stay change ≡ None) c.in-Request.is c.requires.accepted)
    c.set.ensures.full in
    let put = from_ok c.set.result _ ok c.set.ensures.put in
    let puts = subst (λ rows. Puts rows c.set.new.self.rows owner.0 (Some c.in-Request.tuple)) c.requires.stand.live put in
    let new : Present = record { owner = owner; stay = c.args.stay; asked = Some (record { tuple = c.in-Request.tuple; stamp = before.greatest }) } in
    live-requested present new (record { tuple = c.in-Request.tuple; stamp = before.greatest }) c.set.new.self.rows c.requires.stand.base.rising
    c.set.ensures.rising refl puts
    ∙ ap (λ change. live_requests (present_changed before.greatest present owner c.args.stay change)) (sym c.in-Request.is)

pub returns-in-Depart-clause-live : goal.returns-in-Depart-clause-live
returns-in-Depart-clause-live c =
    let before = c.args.before.now in
    let present = before.present.items in
    let puts = subst (λ rows. Puts rows c.remove-removed.new.self.rows c.args.owner.0 None) c.requires.stand.live c.remove-removed.ensures.removed in
    live-departed present c.remove-removed.new.self.rows c.args.owner.0 c.requires.stand.base.rising c.remove-removed.ensures.rising puts
    ∙ ap (λ change. live_requests (present_changed before.greatest present c.args.owner c.args.stay change)) (sym c.in-Depart.is)

pub returns-in-Arrive-clause-live : goal.returns-in-Arrive-clause-live
returns-in-Arrive-clause-live c =
    let before = c.args.before.now in
    let present = before.present.items in
    let new : Present = record { owner = c.args.owner; stay = c.args.stay; asked = None } in
    c.requires.stand.live
    ∙ live-arrived present new c.requires.stand.base.rising c.requires.stand.base.stays refl
    (subst (λ change. refusal_in present c.args.owner.0 c.args.stay change ≡ None) c.in-Arrive.is c.requires.accepted)
    ∙ ap (λ change. live_requests (present_changed before.greatest present c.args.owner c.args.stay change)) (sym c.in-Arrive.is)
