use Rattle.std.proofs.Common.{◌<◌, ◌+◌, ◌-◌, ap, sym, subst, ◌∙◌, length, arith}
use Rattle.std.specs.Prelude.{◌↔◌, IsTrue, nat_lt}
use Rattle.desk.specs.declared.base.Base.{Base}
use Rattle.desk.specs.declared.base.TheConstants.{CALL_LIMIT}
use Rattle.desk.specs.Trace.{present_with}
use Rattle.desk.specs.State.{DeskState, IsOverLimit}
use Rattle.desk.proofs.DeskLemmas.{whole_calls, over_limit_is, tested}
use Rattle.desk.proofs.desk.Desk.is_over_limit.Goals as goal

pub overflow_sub-room : goal.overflow_sub-room
overflow_sub-room c =
    let inside = c.self.inside in
    let d : DeskState = record {
      gap = inside.gap;
      request_ms = inside.request_ms;
      base = inside.base;
      history = inside.history.items;
      bounds = inside.standing.bounds;
    } in
    omega (
      arith,
      ap (λ (b : Base). b.calls) c.whole-now.ensures.value,
      whole_calls d inside.history.capacity inside.standing c.self.invariant,
      c.self.invariant.legal.within,
    )

pub returns-clause-over : goal.returns-clause-over
returns-clause-over c =
    let inside = c.self.inside in
    let d : DeskState = record {
      gap = inside.gap;
      request_ms = inside.request_ms;
      base = inside.base;
      history = inside.history.items;
      bounds = inside.standing.bounds;
    } in
    let call = c.args.call.now in
    let now = c.whole-now.result.now in
    let both : CALL_LIMIT - inside.standing.whole.calls < 1 + c.count_behind.result ↔ IsOverLimit d call =
    over_limit_is d inside.history.capacity inside.standing call c.count_behind.result c.self.invariant
    (λ request_ms. c.count_behind.ensures.count request_ms
    ∙ ap (λ (b : Base). length (present_with request_ms b call)) c.whole-now.ensures.value) in
    let shown : CALL_LIMIT - now.calls < 1 + c.count_behind.result ↔ IsOverLimit d call =
    subst (λ (b : Base). CALL_LIMIT - b.calls < 1 + c.count_behind.result ↔ IsOverLimit d call) (sym c.whole-now.ensures.value) both in
    subst (λ (s : DeskState). IsTrue (nat_lt (CALL_LIMIT - now.calls) (1 + c.count_behind.result)) ↔ IsOverLimit s call) c.self.view_is
    (tested (CALL_LIMIT - now.calls) (1 + c.count_behind.result) (IsOverLimit d call) shown)
