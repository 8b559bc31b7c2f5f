use Rattle.std.proofs.Common.{◌≡◌, sym, ◌∙◌}
use Rattle.core_steps.specs.Happening.{Happening}
use Rattle.core_steps.specs.Hearing.{ticking}
use Rattle.core_steps.specs.Machine.{alone, no_rest}
use Rattle.core_steps.proofs.FrontLemmas.{none_idle}
use Rattle.core_steps.proofs.RunLemmas.{step-busy, step-idle}
use Rattle.core_steps.proofs.duties.tick_or_busy.Goals as goal

pub returns-then-is_busy-clause-ok : goal.returns-then-is_busy-clause-ok
returns-then-is_busy-clause-ok c =
    let w = alone c.args.front.now in
    step-busy w (λ (h : Happening). h ≡ ticking w c.args.moment) c.args.outs.now.items w c.busy.new.outs.items c.busy.result (sym c.is_busy.ensures ∙ c.if-is_busy.true)
    (c.busy.ensures.ok no_rest none_idle.1)

pub returns-clause-ok : goal.returns-clause-ok
returns-clause-ok c =
    let w = alone c.args.front.now in
    step-idle w (λ (h : Happening). h ≡ ticking w c.args.moment) c.args.outs.now.items (alone c.tick.new.front) c.args.outs.now.items
    c.tick.result (sym c.is_busy.ensures ∙ c.if-is_busy.false) (c.tick.ensures.ok c.args.outs.now.items no_rest none_idle)
