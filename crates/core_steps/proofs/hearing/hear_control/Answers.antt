use Rattle.std.proofs.Common.{◌∙◌, ◌++◌, List, length, map, ap, arith, refl}
use Rattle.std.specs.List.{filter_map, flat_map}
use Rattle.datagram.specs.declared.reading.Ask.{Ask}
use Rattle.members.specs.declared.order.Order.{Order}
use Rattle.members.specs.Calls.{Hear}
use Rattle.members.specs.Room.{hear_step}
use Rattle.events.specs.declared.output.Out.{Out}
use Rattle.core_steps.specs.Hearing.{refusal_for, task_after, task_for}
use Rattle.core_steps.specs.Machine.{setup_of, task_of, whole}
use Rattle.core_steps.proofs.FrontLemmas.{not_busy}
use Rattle.core_steps.proofs.HearingLeaves.{controls}
use Rattle.core_steps.proofs.HearingLemmas.{few_given, tasks_from}
use Rattle.core_steps.proofs.hearing.hear_control.Goals as goal

pub returns-in-Ok-clause-ok : goal.returns-in-Ok-clause-ok
returns-in-Ok-clause-ok c =
    λ bytes reports is rest idle. controls (whole c.args.front.now rest) c.args.moment c.args.endpoint bytes c.prepare.new.self.datagram
    c.args.control.now.speaker.0 reports c.args.control.now.tmmbns c.args.asks.now c.args.asks.now c.args.outs.now.items
    c.push_asks.new.outs.items c.prepare.new.self.orders.items c.hear.new.orders.items c.hear.new.self c.note_report.new.room
    c.prepare.new.self.follow_ups.items c.push_after.new.follow_ups.items c.push_asks.new.follow_ups.items _ _ c.args.control.now.report (not_busy c.args.front.now rest c.requires idle)
    idle.1 c.in-Ok.ensures.answers c.in_ok-prepare.ensures.orders is refl
    c.in_ok-prepare.ensures.follow_ups
    (λ bits. c.push_after.ensures.items bits
    ∙ ap (λ (os : List Order). map (task_of bits) c.prepare.new.self.follow_ups.items
    ++ filter_map (task_after (setup_of c.args.front.now.setup) c.hear.new.self) os) c.as_slice.ensures.value)
    c.push_asks.ensures.follow_ups
    (c.push_asks.ensures.outs ∙ ap (λ (l : List Out). l ++ flat_map (λ (a : Ask). refusal_for (task_for c.args.front.now.setup.links c.hear.new.self c.args.endpoint a)) c.args.asks.now) c.in_ok-reserve.ensures.items) c.note_report.ensures
    (tasks_from c.prepare.new.self.datagram c.hear.new.orders.items c.push_asks.new.follow_ups.items
    c.prepare.new.self.orders_done c.prepare.new.self.follow_ups_done c.in_ok-prepare.ensures.orders_done
    c.in_ok-prepare.ensures.follow_ups_done)
    c.saturating_add-front.ensures

pub push_after-requires : goal.push_after-requires
push_after-requires c =
    let p = c.in_ok-prepare.ensures in
    let few = few_given c.args.front.now.room c.prepare.new.self.orders.items
    (hear_step c.args.front.now.room c.args.moment c.args.endpoint c.args.control.now.speaker.0) c.hear.new.self c.hear.new.orders.items
    c.most_orders.result c.in-Ok.ensures.answers p.orders
    (c.most_orders.ensures.most (Hear c.args.moment c.args.endpoint c.args.control.now.speaker.0)) in
    let slice = ap (λ (l : List Order). length l) c.as_slice.ensures.value in
    omega (arith, few, slice, p.len, p.room)

pub push_asks-requires-clause-follow_ups : goal.push_asks-requires-clause-follow_ups
push_asks-requires-clause-follow_ups c =
    let p = c.in_ok-prepare.ensures in
    let few = few_given c.args.front.now.room c.prepare.new.self.orders.items
    (hear_step c.args.front.now.room c.args.moment c.args.endpoint c.args.control.now.speaker.0) c.hear.new.self c.hear.new.orders.items
    c.most_orders.result c.in-Ok.ensures.answers p.orders
    (c.most_orders.ensures.most (Hear c.args.moment c.args.endpoint c.args.control.now.speaker.0)) in
    let slice = ap (λ (l : List Order). length l) c.as_slice.ensures.value in
    omega (arith, few, slice, p.len, p.room, c.push_after.ensures.len, c.push_after.ensures.capacity)
