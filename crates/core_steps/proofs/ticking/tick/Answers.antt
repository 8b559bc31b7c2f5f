use Rattle.std.proofs.Common.{◌≡◌, ◌≤◌, ◌∙◌, ◌++◌, List, length, map, ap, arith, subst, sym}
use Rattle.std.specs.List.{filter_map}
use Rattle.members.specs.declared.order.Order.{Order}
use Rattle.members.specs.Calls.{Tick}
use Rattle.members.specs.Room.{tick_step}
use Rattle.settings.specs.declared.settings.LegSettings.{LegSettings}
use Rattle.tmmbr_tuple.specs.declared.ssrc.Ssrc.{Ssrc}
use Rattle.core_steps.specs.declared.tasks.FollowUp.{FollowUp}
use Rattle.core_steps.specs.Hearing.{task_after}
use Rattle.core_steps.specs.Machine.{setup_of, task_of, whole}
use Rattle.core_steps.proofs.FrontLemmas.{not_busy}
use Rattle.core_steps.proofs.HearingLeaves.{ticks_so}
use Rattle.core_steps.proofs.HearingLemmas.{tasks_from}
use Rattle.core_steps.proofs.ticking.tick.Goals as goal

pub returns-clause-ok : goal.returns-clause-ok
returns-clause-ok c =
    λ outs rest idle. ticks_so (whole c.args.front.now rest) c.args.moment outs c.tick_or_no_memory.new.self c.prepare.new.self.orders.items c.tick_or_no_memory.new.orders.items
    (length c.endpoints.result.now) c.slots_now-slots.result c.push_after.new.follow_ups.items c.push_due.new.follow_ups.items
    c.push_expiring.new.follow_ups.items c.push_reports.new.follow_ups.items c.prepare.new.self.datagram _ _ (not_busy c.args.front.now rest c.requires idle)
    idle.1 c.knows_count.ensures c.in_ok-prepare.ensures.orders c.in_ok-tick_or_no_memory.ensures.ok.0
    c.in_ok-tick_or_no_memory.ensures.ok.1
    (record {
      first = λ bits. c.push_after.ensures.items bits
          ∙ ap (λ (l : List FollowUp). map (task_of bits) l ++ filter_map (task_after (setup_of c.args.front.now.setup) c.tick_or_no_memory.new.self) c.as_slice.result.now)
          c.in_ok-prepare.ensures.follow_ups
          ∙ ap (λ (os : List Order). filter_map (task_after (setup_of c.args.front.now.setup) c.tick_or_no_memory.new.self) os) c.as_slice.ensures.value;
      count = ap (λ (l : List Ssrc). length l) c.endpoints.ensures.value;
      done = c.slots_now-slots.ensures.done;
      come = c.slots_now-slots.ensures.come;
      pulses = c.push_due.ensures.items;
      expiring = c.push_expiring.ensures.items;
      reporting = c.push_reports.ensures;
    })
    (tasks_from c.prepare.new.self.datagram c.tick_or_no_memory.new.orders.items c.push_reports.new.follow_ups.items
    c.prepare.new.self.orders_done c.prepare.new.self.follow_ups_done c.in_ok-prepare.ensures.orders_done
    c.in_ok-prepare.ensures.follow_ups_done)
    c.round_after-front.ensures

pub push_after-requires : goal.push_after-requires
push_after-requires c =
    let p = c.in_ok-prepare.ensures in
    let step = tick_step c.args.front.now.room c.args.moment in
    let orders : c.tick_or_no_memory.new.orders.items ≡ step.orders =
    c.in_ok-tick_or_no_memory.ensures.ok.1 ∙ ap (λ (l : List Order). l ++ step.orders) p.orders in
    let few : length c.as_slice.result.now ≤ c.most_orders.result =
    subst (λ (l : List Order). length l ≤ c.most_orders.result) (sym (c.as_slice.ensures.value ∙ orders))
    (c.most_orders.ensures.most (Tick c.args.moment)) in
    omega (arith, few, p.len, p.room)

pub push_due-requires : goal.push_due-requires
push_due-requires c =
    let p = c.in_ok-prepare.ensures in
    let step = tick_step c.args.front.now.room c.args.moment in
    let orders : c.tick_or_no_memory.new.orders.items ≡ step.orders =
    c.in_ok-tick_or_no_memory.ensures.ok.1 ∙ ap (λ (l : List Order). l ++ step.orders) p.orders in
    let few : length c.as_slice.result.now ≤ c.most_orders.result =
    subst (λ (l : List Order). length l ≤ c.most_orders.result) (sym (c.as_slice.ensures.value ∙ orders))
    (c.most_orders.ensures.most (Tick c.args.moment)) in
    let a = c.push_after.ensures in
    omega (arith, few, p.len, p.room, a.len, a.capacity, c.from.ensures)

pub push_expiring-requires : goal.push_expiring-requires
push_expiring-requires c =
    let p = c.in_ok-prepare.ensures in
    let step = tick_step c.args.front.now.room c.args.moment in
    let orders : c.tick_or_no_memory.new.orders.items ≡ step.orders =
    c.in_ok-tick_or_no_memory.ensures.ok.1 ∙ ap (λ (l : List Order). l ++ step.orders) p.orders in
    let few : length c.as_slice.result.now ≤ c.most_orders.result =
    subst (λ (l : List Order). length l ≤ c.most_orders.result) (sym (c.as_slice.ensures.value ∙ orders))
    (c.most_orders.ensures.most (Tick c.args.moment)) in
    let a = c.push_after.ensures in
    let b = c.push_due.ensures in
    omega (arith, few, p.len, p.room, a.len, a.capacity, b.len, b.capacity, c.from.ensures)

pub push_reports-requires : goal.push_reports-requires
push_reports-requires c =
    let p = c.in_ok-prepare.ensures in
    let step = tick_step c.args.front.now.room c.args.moment in
    let orders : c.tick_or_no_memory.new.orders.items ≡ step.orders =
    c.in_ok-tick_or_no_memory.ensures.ok.1 ∙ ap (λ (l : List Order). l ++ step.orders) p.orders in
    let few : length c.as_slice.result.now ≤ c.most_orders.result =
    subst (λ (l : List Order). length l ≤ c.most_orders.result) (sym (c.as_slice.ensures.value ∙ orders))
    (c.most_orders.ensures.most (Tick c.args.moment)) in
    let a = c.push_after.ensures in
    let b = c.push_due.ensures in
    let e = c.push_expiring.ensures in
    let legs = ap (λ (l : List LegSettings). length l) c.legs-legs.ensures.value in
    omega (arith, few, legs, p.len, p.room, a.len, a.capacity, b.len, b.capacity, e.len, e.capacity, c.from.ensures)
