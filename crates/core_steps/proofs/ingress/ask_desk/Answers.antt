use Rattle.std.proofs.Common.{◌≡◌, List, sym, ap, subst, arith}
use Rattle.std.proofs.lemmas.List.{with_items_is}
use Rattle.std.specs.Vec.{with_items}
use Rattle.std.specs.Prelude.{Option, slice_get, option_map}
use Rattle.desk.specs.State.{DeskState}
use Rattle.desk_calls.specs.declared.notification.Notification.{Notification}
use Rattle.core_steps.specs.Asking.{Asked}
use Rattle.core_steps.specs.Machine.{state_of, tasks_of}
use Rattle.desk_calls.specs.declared.calls.Question.{Question}
use Rattle.desk_calls.specs.Notification.{pending_with}
use Rattle.core_steps.proofs.AskingLemmas.{asking_of}
use Rattle.core_steps.proofs.IngressLemmas.{desk_asked}
use Rattle.core_steps.proofs.ingress.ask_desk.Goals as goal

pub returns : goal.returns
returns c =
    λ t. let outs = c.args.outs.now.items in
    let all = c.ask-m.new.outs.items in
    let p = c.args.publisher in
    let q : Question = asking_of p c.args.call.now in
    let old = c.args.m.now.desks in
    let new = c.ask-m.new.desks in
    let kept : (with_items old new).items ≡ new = with_items_is old new (omega (arith, c.ask-m.auto.desks, c.as_mut_slice.ensures.len)) in
    let P : List DeskState → Type 0 = λ ds. Asked q (slice_get ds p) ds new (option_map (pending_with c.ask-m.new.effect) c.ask-m.result) outs all in
    let Q : List DeskState → Type 0 = λ ds. Asked q (slice_get old.items p) old.items ds (option_map (pending_with c.ask-m.new.effect) c.ask-m.result) outs all in
    desk_asked (state_of c.args.m.now) t p c.args.call.now (tasks_of c.finish.new.self) (option_map (pending_with c.ask-m.new.effect) c.ask-m.result)
    (with_items old new).items outs all
    (ap (λ (o : Option Notification). option_map (pending_with c.args.m.now.effect) o) c.requires.idle)
    c.knows_counts.ensures.lost
    c.knows_counts.ensures.tmmbns
    c.finish.ensures.tasks
    (subst Q (sym kept) (subst P c.as_mut_slice.ensures.value c.ask-m.ensures))
