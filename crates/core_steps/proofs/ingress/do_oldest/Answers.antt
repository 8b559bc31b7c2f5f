use Rattle.std.proofs.Common.{◌∷◌, ◌++◌, [], List, ap, subst, ◌∙◌}
use Rattle.std.specs.Result.{OnOk}
use Rattle.std.specs.Prelude.{drop, None}
use Rattle.events.specs.declared.output.Out.{Out}
use Rattle.events.specs.declared.output.Out.TheVariants.{Idle}
use Rattle.core_steps.specs.Machine.{state_of, tasks_of, task_in}
use Rattle.core_steps.specs.Rule.{DoesNext, DoesTask}
use Rattle.core_steps.specs.Run.{Leaves}
use Rattle.core_steps.proofs.IngressLemmas.{does_none, does_oldest, on_ok}
use Rattle.core_steps.proofs.ingress.do_oldest.Goals as goal

pub returns-in-None-clause-ok : goal.returns-in-None-clause-ok
returns-in-None-clause-ok c =
    does_none (state_of c.args.m.now) _ c.args.outs.now.items _ c.knows_counts.ensures.lost c.knows_counts.ensures.tmmbns c.in-None.ensures
    (c.push_reserved.ensures.items ∙ ap (λ (os : List Out). os ++ Idle ∷ []) c.reserve.ensures.items)

pub returns-in-Some-clause-ok : goal.returns-in-Some-clause-ok
returns-in-Some-clause-ok c =
    let w = state_of c.args.m.now in
    let new = state_of c.do_task.new.m in
    let all = c.do_task.new.outs.items in
    let t = task_in c.args.m.now.front.tasks.datagram c.in-Some.next in
    let P : List Out → Type 0 = λ os. OnOk c.do_task.result (Leaves (DoesTask w t) w os new all) in
    on_ok c.do_task.result (Leaves (DoesTask w t) w c.args.outs.now.items new all) (Leaves (DoesNext w None (tasks_of c.args.m.now.front.tasks)) w c.args.outs.now.items new all)
    (does_oldest w new t (tasks_of c.args.m.now.front.tasks) (drop 1 (tasks_of c.args.m.now.front.tasks)) c.args.outs.now.items all c.in-Some.ensures)
    (subst P c.reserve.ensures.items c.do_task.ensures.ok)
