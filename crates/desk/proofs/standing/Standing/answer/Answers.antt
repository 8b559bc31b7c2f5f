use Rattle.std.proofs.Common.{sym, ap, subst, ◌∙◌, arith}
use Rattle.desk.specs.declared.call.Entry.{Entry}
use Rattle.desk.specs.declared.base.Base.{Base}
use Rattle.desk.specs.Presence.{live_requests}
use Rattle.desk.specs.Trace.{IsBase}
use Rattle.desk.specs.Standing.{Stand, IsStand}
use Rattle.desk.proofs.TraceLemmas.{IsBase-with, answer_follows}
use Rattle.desk.proofs.standing.Standing.answer.Goals as goal

pub take_in-requires : goal.take_in-requires
take_in-requires c =
    let before = c.self.inside.whole in
    let entry : Entry = record { call = c.args.call.now; answer = c.owed-answer.result } in
    record {
      base = c.self.invariant.base;
      follows = answer_follows c.args.gap c.args.request_ms before entry c.requires.stays c.owed-answer.ensures.owed;
      room = omega (arith, ap (λ (s : Stand). s.whole.calls) c.self.view_is, c.requires.room);
    }

stand : (c : goal.After-take_in) → IsStand c.take_in.new.self c.owed-answer.new.bounds
stand c =
    let before = c.self.inside.whole in
    let entry : Entry = record { call = c.args.call.now; answer = c.owed-answer.result } in
    record {
      base = subst IsBase (sym c.take_in.ensures)
          (IsBase-with c.args.request_ms before entry c.self.invariant.base
          (answer_follows c.args.gap c.args.request_ms before entry c.requires.stays c.owed-answer.ensures.owed));
      live = c.owed-answer.ensures.live ∙ ap (λ (b : Base). live_requests b.present.items) (sym c.take_in.ensures);
      announced = c.owed-answer.ensures.announced;
    }

pub invariant_of-self : goal.invariant_of-self
invariant_of-self c = stand c

pub returns-clause-stand : goal.returns-clause-stand
returns-clause-stand c = stand c
