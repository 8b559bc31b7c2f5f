use Rattle.std.proofs.Common.{sym, ◌∙◌}
use Rattle.core_steps.specs.Hearing.{IsHearing}
use Rattle.core_steps.specs.Machine.{alone, no_rest}
use Rattle.core_steps.proofs.FrontLemmas.{none_idle}
use Rattle.core_steps.proofs.RunLemmas.{step-busy, step-idle}
use Rattle.core_steps.proofs.duties.take_or_busy.Goals as goal

pub returns-then-is_busy-clause-ok : goal.returns-then-is_busy-clause-ok
returns-then-is_busy-clause-ok c =
    let w = alone c.args.front.now in
    λ bytes says. step-busy w (IsHearing w c.args.moment c.args.taking.endpoint bytes) c.args.outs.now.items w c.busy.new.outs.items c.busy.result
    (sym c.is_busy.ensures ∙ c.if-is_busy.true) (c.busy.ensures.ok no_rest none_idle.1)

pub returns-clause-ok : goal.returns-clause-ok
returns-clause-ok c =
    let w = alone c.args.front.now in
    λ bytes says. step-idle w (IsHearing w c.args.moment c.args.taking.endpoint bytes) c.args.outs.now.items (alone c.take.new.front)
    c.take.new.outs.items c.take.result (sym c.is_busy.ensures ∙ c.if-is_busy.false) (c.take.ensures.ok bytes says no_rest none_idle)
