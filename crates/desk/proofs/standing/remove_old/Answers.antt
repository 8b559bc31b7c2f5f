use Rattle.std.proofs.Common.{◌≡◌, ◌+◌, ◌∙◌, sym, ap, subst}
use Rattle.bounding_set.specs.State.{State, AnnouncesSmallest}
use Rattle.desk.specs.Presence.{live_requests}
use Rattle.desk.proofs.PresenceLemmas.{aged, aged-all}
use Rattle.desk.proofs.LiveLemmas.{live_old, live_young}
use Rattle.desk.proofs.standing.remove_old.Goals as goal
use Rattle.desk.proofs.standing.remove_old.Goals.{then-is_too_old, else-is_too_old}

pub loop-p-preserved : goal.loop-p-preserved
loop-p-preserved c =
    let request_ms = c.args.request_ms in
    let now = c.args.now in
    let present = c.args.present.now in
    let i = c.loop-p.p-index in
    let Kept : State → Type 0 = λ b. (b.rows ≡ live_requests (aged request_ms now (i + 1) present)) × AnnouncesSmallest b in
    elim c.if-is_too_old.branch [
      | then-is_too_old w ↦
          subst Kept (sym w.bounds-is) (
            live_old request_ms now i present c.p-item.result c.loop-p.bounds.rows w.remove-removed.new.self.rows c.requires.rising
                c.loop-p-test.true c.loop-p.invariant.0 c.p-item.is
                (sym c.is_too_old.ensures ∙ w.if-is_too_old.true)
                w.remove-removed.ensures.rising w.remove-removed.ensures.removed,
            w.remove-removed.ensures.announced,
          )
      | else-is_too_old w ↦
          subst Kept (sym w.bounds-is) (
            live_young request_ms now i present c.p-item.result c.loop-p.bounds.rows c.loop-p-test.true c.loop-p.invariant.0 c.p-item.is
                (sym c.is_too_old.ensures ∙ w.if-is_too_old.false),
            c.loop-p.invariant.1,
          )
    ]

pub returns-clause-live : goal.returns-clause-live
returns-clause-live c =
    c.loop-p.invariant.0
    ∙ ap live_requests (aged-all c.args.request_ms c.args.now c.loop-p.p-index c.args.present.now c.loop-p-test.false)

pub returns-clause-announced : goal.returns-clause-announced
returns-clause-announced c = c.loop-p.invariant.1
