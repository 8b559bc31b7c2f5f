use Rattle.std.proofs.Common.{◌∙◌, sym, subst, map}
use Rattle.tmmbr_c.specs.Numbers.{asked_request}
use Rattle.tmmbr_c.specs.Order.{OrdersRequests}
use Rattle.tmmbr_c.specs.Answer.{IsRefusedRange, IsRefusedOwner, HasSizes}
use Rattle.tmmbr_c.proofs.AnnounceLemmas.{AnswersFor, OrdersRequests-from_owners, answers-request_range, answers-same_ssrc, answers-accepted}
use Rattle.tmmbr_c.proofs.announcing.tmmbr_announced.Goals as goal

pub announce-requires : goal.announce-requires
announce-requires c =
    let asked = c.args.asked.now in
    subst (λ requests. OrdersRequests requests c.as_slice-2.result.now) (sym c.in-Ok.ensures.read ∙ sym c.as_slice.ensures.value)
    (subst (OrdersRequests (map asked_request asked)) (sym c.as_slice-2.ensures.value)
    (OrdersRequests-from_owners asked c.in-Ok-order_owners.order.items c.if-asked-gt-MAX_REQUESTS.false c.in-Ok-order_owners.ensures.ordered))

range_answers : (c : goal.After-refused-in-Err) → AnswersFor c.args.asked.now c.args.kept.now c.args.implied.now c.refused-in-Err.result
range_answers c =
    answers-request_range c.args.asked.now c.args.kept.now c.args.implied.now c.refused-in-Err.result c.refused-in-Err.ensures.fault
    (subst (IsRefusedRange c.args.asked.now) (sym c.refused-in-Err.ensures.place)
    (record { few = c.if-asked-gt-MAX_REQUESTS.false; first = c.in-Err.ensures.first }))

owner_answers : (c : goal.After-refused-in-Err-order_owners)
    → AnswersFor c.args.asked.now c.args.kept.now c.args.implied.now c.refused-in-Err-order_owners.result
owner_answers c =
    answers-same_ssrc c.args.asked.now c.args.kept.now c.args.implied.now c.refused-in-Err-order_owners.result
    c.refused-in-Err-order_owners.ensures.fault
    (subst (IsRefusedOwner c.args.asked.now) (sym c.refused-in-Err-order_owners.ensures.place)
    (record { few = c.if-asked-gt-MAX_REQUESTS.false; in_range = c.in-Ok.ensures.in_range; first = c.in-Err-order_owners.ensures.repeated }))

accepted_answers : (c : goal.After-implied-1) → AnswersFor c.args.asked.now c.args.kept.now c.args.implied.now c.announce.result
accepted_answers c =
    answers-accepted c.args.asked.now c.args.kept.now c.args.implied.now c.announce.result
    (record { few = c.if-asked-gt-MAX_REQUESTS.false; in_range = c.in-Ok.ensures.in_range; owners_differ = c.in-Ok-order_owners.ensures.differ })
    c.announce.ensures.fault
    (subst (λ requests. HasSizes requests c.announce.result.kept c.announce.result.implied) (c.as_slice.ensures.value ∙ c.in-Ok.ensures.read)
    c.announce.ensures.sizes)
    c.announce.ensures.no_room

pub returns-in-Err-clause-accepted : goal.returns-in-Err-clause-accepted
returns-in-Err-clause-accepted c = (range_answers c).accepted

pub returns-in-Err-clause-sizes : goal.returns-in-Err-clause-sizes
returns-in-Err-clause-sizes c = (range_answers c).sizes

pub returns-in-Err-clause-request_range : goal.returns-in-Err-clause-request_range
returns-in-Err-clause-request_range c = (range_answers c).request_range

pub returns-in-Err-clause-same_ssrc : goal.returns-in-Err-clause-same_ssrc
returns-in-Err-clause-same_ssrc c = (range_answers c).same_ssrc

pub returns-in-Err-clause-no_room : goal.returns-in-Err-clause-no_room
returns-in-Err-clause-no_room c = (range_answers c).no_room

pub returns-in-Err-order_owners-clause-accepted : goal.returns-in-Err-order_owners-clause-accepted
returns-in-Err-order_owners-clause-accepted c = (owner_answers c).accepted

pub returns-in-Err-order_owners-clause-sizes : goal.returns-in-Err-order_owners-clause-sizes
returns-in-Err-order_owners-clause-sizes c = (owner_answers c).sizes

pub returns-in-Err-order_owners-clause-request_range : goal.returns-in-Err-order_owners-clause-request_range
returns-in-Err-order_owners-clause-request_range c = (owner_answers c).request_range

pub returns-in-Err-order_owners-clause-same_ssrc : goal.returns-in-Err-order_owners-clause-same_ssrc
returns-in-Err-order_owners-clause-same_ssrc c = (owner_answers c).same_ssrc

pub returns-in-Err-order_owners-clause-no_room : goal.returns-in-Err-order_owners-clause-no_room
returns-in-Err-order_owners-clause-no_room c = (owner_answers c).no_room

pub returns-clause-accepted : goal.returns-clause-accepted
returns-clause-accepted c = (accepted_answers c).accepted

pub returns-clause-sizes : goal.returns-clause-sizes
returns-clause-sizes c = (accepted_answers c).sizes

pub returns-clause-request_range : goal.returns-clause-request_range
returns-clause-request_range c = (accepted_answers c).request_range

pub returns-clause-same_ssrc : goal.returns-clause-same_ssrc
returns-clause-same_ssrc c = (accepted_answers c).same_ssrc

pub returns-clause-no_room : goal.returns-clause-no_room
returns-clause-no_room c = (accepted_answers c).no_room
