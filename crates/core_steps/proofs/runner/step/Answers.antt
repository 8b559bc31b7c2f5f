use Rattle.std.proofs.Common.{◌≡◌, ℕ, List, sym, subst, ◌∙◌}
use Rattle.std.specs.Result.{OnOk}
use Rattle.events.specs.declared.event.Event.TheVariants.{Hear, Tick, Select, Ingress, Work}
use Rattle.core_steps.specs.Happening.{Happening}
use Rattle.core_steps.specs.Hearing.{ticking, selecting}
use Rattle.core_steps.specs.Machine.{state_of, rest_of, whole}
use Rattle.core_steps.specs.Rule.{Does}
use Rattle.core_steps.specs.Run.{Leaves}
use Rattle.core_steps.proofs.RunLemmas.{step-leaves, step-busy, step-idle}
use Rattle.core_steps.proofs.runner.step.Goals as goal

pub returns-in-Ingress-clause-ok : goal.returns-in-Ingress-clause-ok
returns-in-Ingress-clause-ok c =
    step-leaves (state_of c.args.m.now) c.args.event.now Ingress c.args.outs.now.items (state_of c.do_next.new.m)
    c.do_next.new.outs.items c.do_next.result c.in-Ingress.is c.do_next.ensures.ok

pub returns-in-Ingress-clause-err : goal.returns-in-Ingress-clause-err
returns-in-Ingress-clause-err c = c.do_next.ensures.err

pub returns-in-Work-clause-ok : goal.returns-in-Work-clause-ok
returns-in-Work-clause-ok c =
    step-leaves (state_of c.args.m.now) c.args.event.now (Work c.in-Work.worker) c.args.outs.now.items (state_of c.work.new.m)
    c.work.new.outs.items c.work.result c.in-Work.is c.work.ensures.ok

pub returns-in-Work-clause-err : goal.returns-in-Work-clause-err
returns-in-Work-clause-err c = c.work.ensures.err

pub returns-in-Hear-clause-ok : goal.returns-in-Hear-clause-ok
returns-in-Hear-clause-ok c =
    step-leaves (state_of c.args.m.now) c.args.event.now (Hear c.in-Hear.moment c.in-Hear.endpoint c.in-Hear.bytes) c.args.outs.now.items
    (state_of c.hear_or_busy.new.m) c.hear_or_busy.new.outs.items c.hear_or_busy.result c.in-Hear.is
    (subst (λ (bytes : List ℕ). OnOk c.hear_or_busy.result
    (Leaves (Does (state_of c.args.m.now) (Hear c.in-Hear.moment c.in-Hear.endpoint bytes)) (state_of c.args.m.now) c.args.outs.now.items
    (state_of c.hear_or_busy.new.m) c.hear_or_busy.new.outs.items)) c.as_slice.ensures c.hear_or_busy.ensures.ok)

pub returns-in-Hear-clause-err : goal.returns-in-Hear-clause-err
returns-in-Hear-clause-err c = c.hear_or_busy.ensures.err

pub returns-then-is_busy-clause-ok : goal.returns-then-is_busy-clause-ok
returns-then-is_busy-clause-ok c =
    step-leaves (state_of c.args.m.now) c.args.event.now (Tick c.in-Tick.moment) c.args.outs.now.items (state_of c.args.m.now) c.busy.new.outs.items c.busy.result c.in-Tick.is
    (step-busy (state_of c.args.m.now) (λ (h : Happening). h ≡ ticking (state_of c.args.m.now) c.in-Tick.moment) c.args.outs.now.items (state_of c.args.m.now) c.busy.new.outs.items c.busy.result
    (sym c.is_busy.ensures.value ∙ c.if-is_busy.true) (c.busy.ensures.ok (rest_of c.args.m.now) c.knows_counts.ensures.lost))

pub returns-else-is_busy-clause-ok : goal.returns-else-is_busy-clause-ok
returns-else-is_busy-clause-ok c =
    step-leaves (state_of c.args.m.now) c.args.event.now (Tick c.in-Tick.moment) c.args.outs.now.items (whole c.tick.new.front (rest_of c.args.m.now)) c.args.outs.now.items c.tick.result c.in-Tick.is
    (step-idle (state_of c.args.m.now) (λ (h : Happening). h ≡ ticking (state_of c.args.m.now) c.in-Tick.moment) c.args.outs.now.items (whole c.tick.new.front (rest_of c.args.m.now)) c.args.outs.now.items c.tick.result
    (sym c.is_busy.ensures.value ∙ c.if-is_busy.false) (c.tick.ensures.ok c.args.outs.now.items (rest_of c.args.m.now) (c.is_busy.ensures.rest c.if-is_busy.false)))

pub returns-then-is_busy-2-clause-ok : goal.returns-then-is_busy-2-clause-ok
returns-then-is_busy-2-clause-ok c =
    step-leaves (state_of c.args.m.now) c.args.event.now (Select c.in-Select.moment c.in-Select.leg c.in-Select.on) c.args.outs.now.items (state_of c.args.m.now) c.busy-then-is_busy-2.new.outs.items c.busy-then-is_busy-2.result c.in-Select.is
    (step-busy (state_of c.args.m.now) (λ (h : Happening). h ≡ selecting (state_of c.args.m.now) c.in-Select.moment c.in-Select.leg c.in-Select.on) c.args.outs.now.items (state_of c.args.m.now) c.busy-then-is_busy-2.new.outs.items c.busy-then-is_busy-2.result
    (sym c.is_busy-in-Select.ensures.value ∙ c.if-is_busy-2.true) (c.busy-then-is_busy-2.ensures.ok (rest_of c.args.m.now) c.knows_counts.ensures.lost))

pub returns-else-is_busy-2-clause-ok : goal.returns-else-is_busy-2-clause-ok
returns-else-is_busy-2-clause-ok c =
    step-leaves (state_of c.args.m.now) c.args.event.now (Select c.in-Select.moment c.in-Select.leg c.in-Select.on) c.args.outs.now.items (whole c.select.new.front (rest_of c.args.m.now)) c.select.new.outs.items c.select.result c.in-Select.is
    (step-idle (state_of c.args.m.now) (λ (h : Happening). h ≡ selecting (state_of c.args.m.now) c.in-Select.moment c.in-Select.leg c.in-Select.on) c.args.outs.now.items (whole c.select.new.front (rest_of c.args.m.now)) c.select.new.outs.items c.select.result
    (sym c.is_busy-in-Select.ensures.value ∙ c.if-is_busy-2.false) (c.select.ensures.ok (rest_of c.args.m.now) (c.is_busy-in-Select.ensures.rest c.if-is_busy-2.false)))
