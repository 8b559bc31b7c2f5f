use Rattle.std.proofs.Common.{◌≡◌, List, sym, ap, subst, ◌∙◌, arith}
use Rattle.std.proofs.lemmas.List.{with_items_is}
use Rattle.std.specs.Vec.{with_items}
use Rattle.std.specs.Prelude.{slice_set}
use Rattle.members.specs.declared.order.Order.{Order}
use Rattle.members.specs.declared.order.Order.TheVariants.{Arrive, Depart}
use Rattle.members.specs.declared.order.Row.{Row}
use Rattle.core_steps.specs.Machine.{state_of, tasks_of}
use Rattle.core_steps.specs.Rule.{DoesTask}
use Rattle.core_steps.specs.Run.{Leaves}
use Rattle.core_steps.specs.World.{order}
use Rattle.core_steps.proofs.IngressLemmas.{routed, with_parts}
use Rattle.core_steps.proofs.ingress.do_order.Goals as goal

pub returns-in-Arrive : goal.returns-in-Arrive
returns-in-Arrive c =
    let w = state_of c.args.m.now in
    let P : Order → Type 0 = λ o. Leaves (DoesTask w (order o)) w c.args.outs.now.items (state_of c.ask_in_stay.new.m) c.ask_in_stay.new.outs.items in
    subst P (sym c.in-Arrive.is) (c.ask_in_stay.ensures (order (Arrive c.in-Arrive.leg c.in-Arrive.stay)))

pub returns-in-Depart : goal.returns-in-Depart
returns-in-Depart c =
    let w = state_of c.args.m.now in
    let P : Order → Type 0 = λ o. Leaves (DoesTask w (order o)) w c.args.outs.now.items (state_of c.ask_in_stay-in-Depart.new.m) c.ask_in_stay-in-Depart.new.outs.items in
    subst P (sym c.in-Depart.is) (c.ask_in_stay-in-Depart.ensures (order (Depart c.in-Depart.leg c.in-Depart.stay)))

pub returns-in-Route : goal.returns-in-Route
returns-in-Route c =
    let w = state_of c.args.m.now in
    let old = c.args.m.now.rows in
    let new = c.put_row.new.rows in
    let leg = c.in-Route.leg in
    let outs = c.args.outs.now.items in
    let row : Row = record { stay = c.in-Route.stay; turn = c.in-Route.turn; on = c.in-Route.on } in
    let kept : (with_items old new).items ≡ new = with_items_is old new (omega (arith, c.put_row.auto.rows, c.as_mut_slice.ensures.len)) in
    let put : (with_items old new).items ≡ slice_set old.items leg row =
    kept ∙ (c.put_row.ensures ∙ ap (λ (rs : List Row). slice_set rs leg row) c.as_mut_slice.ensures.value) in
    let done = routed w leg c.in-Route.stay c.in-Route.turn c.in-Route.on (tasks_of c.finish.new.self) (with_items old new).items outs
    c.knows_counts.ensures.lost c.knows_counts.ensures.tmmbns c.finish.ensures.tasks put in
    let P : Order → Type 0 = λ o. Leaves (DoesTask w (order o)) w outs
    (with_parts w w.room (tasks_of c.finish.new.self) w.pending w.desks (with_items old new).items w.workers w.lost w.tmmbns) outs in
    subst P (sym c.in-Route.is) done
