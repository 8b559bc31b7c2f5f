use Rattle.std.proofs.Common.{◌∙◌, ◌++◌, List, ap, arith, map}
use Rattle.std.proofs.lemmas.List.{take_all}
use Rattle.std.specs.List.{filter_map}
use Rattle.members.specs.declared.order.Order.{Order}
use Rattle.core_steps.specs.Hearing.{task_after}
use Rattle.core_steps.specs.Machine.{setup_of, task_of}
use Rattle.core_steps.proofs.HearingLemmas.{task_one_more}
use Rattle.core_steps.proofs.order_follow_ups.push_after.Goals as goal

pub loop-order-preserved : goal.loop-order-preserved
loop-order-preserved c = record {
  follow_ups = task_one_more (task_after (setup_of c.args.setup.now) c.args.room.now) c.loop-order.order-index c.args.orders.now _
      c.args.follow_ups.now.items c.loop-order.follow_ups.items c.push_some.new.follow_ups.items c.follow_up_after.result
      c.loop-order-test.true c.loop-order.invariant.follow_ups c.follow_up_after.ensures c.push_some.ensures.items;
  len = omega (arith, c.push_some.ensures.len, c.loop-order.invariant.len);
  capacity = c.push_some.ensures.capacity ∙ c.loop-order.invariant.capacity;
}

pub returns-clause-items : goal.returns-clause-items
returns-clause-items c =
    λ bits. c.loop-order.invariant.follow_ups bits
    ∙ ap (λ (orders : List Order). map (task_of bits) c.args.follow_ups.now.items
    ++ filter_map (task_after (setup_of c.args.setup.now) c.args.room.now) orders)
    (take_all c.loop-order.order-index c.args.orders.now c.loop-order-test.false)
