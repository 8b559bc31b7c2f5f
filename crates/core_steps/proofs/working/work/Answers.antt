use Rattle.std.proofs.Common.{◌≡◌, List, [], ◌∷◌, ◌++◌, get_or, length, set, map, ap, ◌∙◌}
use Rattle.std.proofs.lemmas.List.{with_items_is, length-set}
use Rattle.std.specs.Vec.{with_items}
use Rattle.events.specs.declared.output.Out.{Out}
use Rattle.events.specs.declared.output.Out.TheVariants.{Idle}
use Rattle.core_steps.specs.Machine.{state_of, worker_state}
use Rattle.core_steps.proofs.WorkingLemmas.{work-done, work-stays, work-idle, worker-there, worker-nowhere, worker-set}
use Rattle.core_steps.proofs.working.work.Goals as goal

pub returns-then-at-workers-clause-ok : goal.returns-then-at-workers-clause-ok
returns-then-at-workers-clause-ok c =
    let m = c.args.m.now in
    let slice = c.as_mut_slice-workers.result.now in
    let got = set slice c.from-at.result c.step.new.w in
    let size : length got ≡ c.args.m.now.workers.len = length-set slice c.from-at.result c.step.new.w ∙ c.as_mut_slice-workers.ensures.len in
    let desks : length c.step.new.desks ≡ c.args.m.now.desks.len = c.step.auto.desks ∙ c.as_mut_slice-desks.ensures.len in
    work-done (state_of m) c.args.worker c.from-at.result (worker_state (get_or slice c.from-at.result c.index-workers-at.result)) (worker_state c.step.new.w)
    c.as_slice-rows.result.now c.as_mut_slice-desks.result.now c.step.new.desks (with_items m.desks c.step.new.desks).items
    (map worker_state (with_items m.workers got).items) c.args.outs.now.items c.reserve.new.self.items c.step.new.outs.items c.step.result
    c.from-at.ensures
    (worker-there m.workers.items slice c.from-at.result c.index-workers-at.result c.as_mut_slice-workers.ensures.value
    c.if-at-workers.true)
    c.knows_counts.ensures.lost c.knows_counts.ensures.tmmbns c.as_slice-rows.ensures.value c.as_mut_slice-desks.ensures.value c.reserve.ensures.items
    (with_items_is m.desks c.step.new.desks desks)
    (worker-set m.workers.items slice (with_items m.workers got).items c.from-at.result c.step.new.w c.as_mut_slice-workers.ensures.value
    (with_items_is m.workers got size))
    c.step.ensures.ok

pub returns-then-at-workers-clause-err : goal.returns-then-at-workers-clause-err
returns-then-at-workers-clause-err c =
    let m = c.args.m.now in
    let slice = c.as_mut_slice-workers.result.now in
    let got = set slice c.from-at.result c.step.new.w in
    let size : length got ≡ c.args.m.now.workers.len = length-set slice c.from-at.result c.step.new.w ∙ c.as_mut_slice-workers.ensures.len in
    let desks : length c.step.new.desks ≡ c.args.m.now.desks.len = c.step.auto.desks ∙ c.as_mut_slice-desks.ensures.len in
    work-stays (state_of m) c.from-at.result (worker_state (get_or slice c.from-at.result c.index-workers-at.result)) (worker_state c.step.new.w)
    c.as_mut_slice-desks.result.now c.step.new.desks (with_items m.desks c.step.new.desks).items
    (map worker_state (with_items m.workers got).items) c.args.outs.now.items c.reserve.new.self.items c.step.new.outs.items c.step.result
    (worker-there m.workers.items slice c.from-at.result c.index-workers-at.result c.as_mut_slice-workers.ensures.value
    c.if-at-workers.true)
    c.as_mut_slice-desks.ensures.value c.reserve.ensures.items
    (with_items_is m.desks c.step.new.desks desks)
    (worker-set m.workers.items slice (with_items m.workers got).items c.from-at.result c.step.new.w c.as_mut_slice-workers.ensures.value
    (with_items_is m.workers got size))
    c.step.ensures.err

pub returns-else-at-workers-clause-ok : goal.returns-else-at-workers-clause-ok
returns-else-at-workers-clause-ok c =
    let m = c.args.m.now in
    let slice = c.as_mut_slice-workers.result.now in
    work-idle (state_of m) c.args.worker c.from-at.result (map worker_state (with_items m.workers slice).items) c.args.outs.now.items
    c.push_reserved.new.self.items c.from-at.ensures
    (worker-nowhere m.workers.items slice c.from-at.result c.as_mut_slice-workers.ensures.value c.if-at-workers.false)
    c.knows_counts.ensures.lost c.knows_counts.ensures.tmmbns
    (ap (map worker_state) (with_items_is m.workers slice c.as_mut_slice-workers.ensures.len ∙ c.as_mut_slice-workers.ensures.value))
    (c.push_reserved.ensures.items ∙ ap (λ (l : List Out). l ++ Idle ∷ []) c.reserve.ensures.items)
