use Rattle.std.proofs.Common.{sym, ◌∙◌}
use Rattle.core_steps.specs.Hearing.{IsHearing}
use Rattle.core_steps.specs.Machine.{state_of, rest_of, whole}
use Rattle.core_steps.proofs.RunLemmas.{step-busy, step-idle}
use Rattle.core_steps.proofs.runner.take_or_busy.Goals as goal

pub returns-then-is_busy-clause-ok : goal.returns-then-is_busy-clause-ok
returns-then-is_busy-clause-ok c =
    λ bytes says. step-busy (state_of c.args.m.now) (IsHearing (state_of c.args.m.now) c.args.moment c.args.taking.endpoint bytes)
    c.args.outs.now.items (state_of c.args.m.now) c.busy.new.outs.items c.busy.result (sym c.is_busy.ensures.value ∙ c.if-is_busy.true)
    (c.busy.ensures.ok (rest_of c.args.m.now) c.knows_counts.ensures.lost)

pub returns-clause-ok : goal.returns-clause-ok
returns-clause-ok c =
    let rest = rest_of c.args.m.now in
    λ bytes says. step-idle (state_of c.args.m.now) (IsHearing (state_of c.args.m.now) c.args.moment c.args.taking.endpoint bytes)
    c.args.outs.now.items (whole c.take.new.front rest) c.take.new.outs.items c.take.result (sym c.is_busy.ensures.value ∙ c.if-is_busy.false)
    (c.take.ensures.ok bytes says rest (c.is_busy.ensures.rest c.if-is_busy.false))
