use Rattle.std.proofs.Common.{◌∙◌, ◌++◌, List, length, map, ap, arith}
use Rattle.std.specs.List.{filter_map}
use Rattle.members.specs.declared.order.Order.{Order}
use Rattle.members.specs.Calls.{Bye}
use Rattle.members.specs.Room.{bye_step}
use Rattle.core_steps.specs.Hearing.{task_after}
use Rattle.core_steps.specs.Machine.{setup_of, task_of, whole}
use Rattle.core_steps.proofs.FrontLemmas.{not_busy}
use Rattle.core_steps.proofs.HearingLeaves.{goodbyes}
use Rattle.core_steps.proofs.HearingLemmas.{few_given, tasks_from}
use Rattle.core_steps.proofs.hearing.hear_goodbye.Goals as goal

pub returns-in-Ok-clause-ok : goal.returns-in-Ok-clause-ok
returns-in-Ok-clause-ok c =
    λ bytes rest idle. goodbyes (whole c.args.front.now rest) c.args.moment c.args.endpoint bytes c.prepare.new.self.datagram c.args.outs.now.items
    c.reserve.new.self.items c.prepare.new.self.orders.items c.bye.new.orders.items c.bye.new.self c.prepare.new.self.follow_ups.items
    c.push_after.new.follow_ups.items _ c.in_ok-reserve.ensures.items (not_busy c.args.front.now rest c.requires idle) idle.1
    c.knows_count.ensures c.in-Ok.ensures c.in_ok-prepare.ensures.orders c.in_ok-prepare.ensures.follow_ups
    (λ bits. c.push_after.ensures.items bits
    ∙ ap (λ (os : List Order). map (task_of bits) c.prepare.new.self.follow_ups.items
    ++ filter_map (task_after (setup_of c.args.front.now.setup) c.bye.new.self) os) c.as_slice.ensures.value)
    (tasks_from c.prepare.new.self.datagram c.bye.new.orders.items c.push_after.new.follow_ups.items
    c.prepare.new.self.orders_done c.prepare.new.self.follow_ups_done c.in_ok-prepare.ensures.orders_done
    c.in_ok-prepare.ensures.follow_ups_done)

pub push_after-requires : goal.push_after-requires
push_after-requires c =
    let p = c.in_ok-prepare.ensures in
    let few = few_given c.args.front.now.room c.prepare.new.self.orders.items (bye_step c.args.front.now.room c.args.moment c.args.endpoint) c.bye.new.self c.bye.new.orders.items
    c.most_orders.result c.in-Ok.ensures p.orders (c.most_orders.ensures.most (Bye c.args.moment c.args.endpoint)) in
    let slice = ap (λ (l : List Order). length l) c.as_slice.ensures.value in
    omega (arith, few, slice, p.len, p.room)
