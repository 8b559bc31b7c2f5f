use Rattle.std.proofs.Common.{ap, sym, subst, ◌∙◌, refl}
use Rattle.desk.specs.declared.base.Base.{Base}
use Rattle.desk.specs.State.{DeskState, IsOverLimit, Records}
use Rattle.desk.specs.Held.{IsHeld}
use Rattle.desk.proofs.DeskLemmas.{room_for_call, follows, held-recorded, whole_calls}
use Rattle.desk.proofs.desk.Desk.record.Goals as goal

pub answer-answer-requires-clause-room : goal.answer-answer-requires-clause-room
answer-answer-requires-clause-room c =
    let inside = c.self.inside in
    let d : DeskState = record {
      gap = inside.gap;
      request_ms = inside.request_ms;
      base = inside.base;
      history = inside.history.items;
      bounds = inside.standing.bounds;
    } in
    room_for_call d inside.history.capacity inside.standing c.args.call.now c.self.invariant
    (subst (λ (s : DeskState). ¬ IsOverLimit s c.args.call.now) (sym c.self.view_is) c.requires.room)

pub list-requires-clause-follows : goal.list-requires-clause-follows
list-requires-clause-follows c =
    let inside = c.self.inside in
    let d : DeskState = record {
      gap = inside.gap;
      request_ms = inside.request_ms;
      base = inside.base;
      history = inside.history.items;
      bounds = inside.standing.bounds;
    } in
    follows d inside.history.capacity inside.standing c.answer-answer.new.self c.args.call.now c.answer-answer.result c.self.invariant
    (subst (λ (s : DeskState). ¬ IsOverLimit s c.args.call.now) (sym c.self.view_is) c.requires.room)
    c.requires.stays c.answer-answer.ensures.owed

held : (c : goal.After-list) → IsHeld (record {
  gap = c.self.inside.gap;
  request_ms = c.self.inside.request_ms;
  base = c.list.new.base;
  history = c.list.new.history.items;
  bounds = c.answer-answer.new.self.bounds;
}) c.list.new.history.capacity c.answer-answer.new.self
held c =
    let inside = c.self.inside in
    let d : DeskState = record {
      gap = inside.gap;
      request_ms = inside.request_ms;
      base = inside.base;
      history = inside.history.items;
      bounds = inside.standing.bounds;
    } in
    held-recorded d inside.history.capacity inside.standing c.answer-answer.new.self c.args.call.now c.answer-answer.result c.self.invariant
    (subst (λ (s : DeskState). ¬ IsOverLimit s c.args.call.now) (sym c.self.view_is) c.requires.room)
    c.requires.stays c.answer-answer.ensures.owed
    c.list.new.base c.list.new.history.items c.list.new.history.capacity c.list.ensures.capacity c.answer-answer.ensures.whole
    c.answer-answer.ensures.stand c.list.ensures.stands c.list.ensures.base

pub invariant_of-self : goal.invariant_of-self
invariant_of-self c = held c

pub returns-clause-legal : goal.returns-clause-legal
returns-clause-legal c = (held c).legal

pub returns-clause-recorded : goal.returns-clause-recorded
returns-clause-recorded c =
    let inside = c.self.inside in
    let d : DeskState = record {
      gap = inside.gap;
      request_ms = inside.request_ms;
      base = inside.base;
      history = inside.history.items;
      bounds = inside.standing.bounds;
    } in
    let new : DeskState = record {
      gap = inside.gap;
      request_ms = inside.request_ms;
      base = c.list.new.base;
      history = c.list.new.history.items;
      bounds = c.answer-answer.new.self.bounds;
    } in
    subst (λ (s : DeskState). Records s c.args.call.now c.whole.result.now.calls c.answer-answer.result new) c.self.view_is
    (record {
      numbered = ap (λ (b : Base). b.calls) c.whole.ensures.value
          ∙ whole_calls d inside.history.capacity inside.standing c.self.invariant;
      stands = c.list.ensures.stands;
      gap = refl;
      request_ms = refl;
    })
