use Rattle.std.proofs.Common.{◌≡◌, ◌∙◌, ◌++◌, List, length, map, vec_len, ap, arith}
use Rattle.std.specs.Prelude.{vec_capacity}
use Rattle.std.specs.Global.{Vec}
use Rattle.std.specs.List.{filter_map}
use Rattle.members.specs.declared.order.Order.{Order}
use Rattle.members.specs.Calls.{Hear}
use Rattle.members.specs.Room.{hear_step}
use Rattle.core_steps.specs.declared.tasks.FollowUp.{FollowUp}
use Rattle.core_steps.specs.Hearing.{task_after}
use Rattle.core_steps.specs.Machine.{setup_of, task_of, whole}
use Rattle.core_steps.proofs.FrontLemmas.{not_busy}
use Rattle.core_steps.proofs.HearingLeaves.{medias}
use Rattle.core_steps.proofs.HearingLemmas.{few_given, tasks_from}
use Rattle.core_steps.proofs.hearing.hear_media.Goals as goal

pub returns-in-Ok-clause-ok : goal.returns-in-Ok-clause-ok
returns-in-Ok-clause-ok c =
    let d = c.in_ok-copy_datagram.ensures in
    let p = c.in_ok-prepare.ensures in
    λ rest idle. medias (whole c.args.front.now rest) c.args.moment c.args.endpoint c.args.bytes.now c.copy_datagram.new.self.datagram
    c.args.packet.ssrc.0 c.args.packet.parts.sequence_number c.args.packet.timestamp c.args.packet.parts.octets c.workers-workers.result c.args.outs.now.items c.reserve.new.self.items c.copy_datagram.new.self.orders.items
    c.hear.new.orders.items c.hear.new.self c.received.new.self c.copy_datagram.new.self.follow_ups.items
    c.push_after.new.follow_ups.items c.push_packet.new.follow_ups.items _ c.in_ok-reserve.ensures.items (not_busy c.args.front.now rest c.requires.idle idle)
    idle.1 c.knows_count.ensures
    c.in-Ok.ensures.answers (ap (λ (v : Vec Order). v.items) d.orders ∙ p.orders) d.datagram
    c.workers-workers.ensures.value (ap (λ (v : Vec FollowUp). v.items) d.follow_ups ∙ p.follow_ups)
    (λ bits. c.push_after.ensures.items bits
    ∙ ap (λ (os : List Order). map (task_of bits) c.copy_datagram.new.self.follow_ups.items
    ++ filter_map (task_after (setup_of c.args.front.now.setup) c.hear.new.self) os) c.as_slice.ensures.value)
    c.push_packet.ensures c.received.ensures
    (tasks_from c.copy_datagram.new.self.datagram c.hear.new.orders.items c.push_packet.new.follow_ups.items
    c.copy_datagram.new.self.orders_done c.copy_datagram.new.self.follow_ups_done (d.orders_done ∙ p.orders_done)
    (d.follow_ups_done ∙ p.follow_ups_done))

pub push_after-requires : goal.push_after-requires
push_after-requires c =
    let d = c.in_ok-copy_datagram.ensures in
    let p = c.in_ok-prepare.ensures in
    let few = few_given c.args.front.now.room c.copy_datagram.new.self.orders.items
    (hear_step c.args.front.now.room c.args.moment c.args.endpoint c.args.packet.ssrc.0) c.hear.new.self c.hear.new.orders.items c.most_orders.result
    c.in-Ok.ensures.answers (ap (λ (v : Vec Order). v.items) d.orders ∙ p.orders)
    (c.most_orders.ensures.most (Hear c.args.moment c.args.endpoint c.args.packet.ssrc.0)) in
    let slice = ap (λ (l : List Order). length l) c.as_slice.ensures.value in
    let len : vec_len c.copy_datagram.new.self.follow_ups ≡ 0 = ap (λ (v : Vec FollowUp). vec_len v) d.follow_ups ∙ p.len in
    let capacity = ap (λ (v : Vec FollowUp). vec_capacity v) d.follow_ups in
    omega (arith, few, slice, len, capacity, p.room)

pub push_packet-requires : goal.push_packet-requires
push_packet-requires c =
    let d = c.in_ok-copy_datagram.ensures in
    let p = c.in_ok-prepare.ensures in
    let few = few_given c.args.front.now.room c.copy_datagram.new.self.orders.items
    (hear_step c.args.front.now.room c.args.moment c.args.endpoint c.args.packet.ssrc.0) c.hear.new.self c.hear.new.orders.items c.most_orders.result
    c.in-Ok.ensures.answers (ap (λ (v : Vec Order). v.items) d.orders ∙ p.orders)
    (c.most_orders.ensures.most (Hear c.args.moment c.args.endpoint c.args.packet.ssrc.0)) in
    let slice = ap (λ (l : List Order). length l) c.as_slice.ensures.value in
    let len : vec_len c.copy_datagram.new.self.follow_ups ≡ 0 = ap (λ (v : Vec FollowUp). vec_len v) d.follow_ups ∙ p.len in
    let capacity = ap (λ (v : Vec FollowUp). vec_capacity v) d.follow_ups in
    omega (arith, few, slice, len, capacity, p.room, c.push_after.ensures.len, c.push_after.ensures.capacity, c.from.ensures)
