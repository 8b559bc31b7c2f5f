use Rattle.std.proofs.Common.{◌∙◌, ◌++◌, List, ap, arith, map}
use Rattle.std.proofs.lemmas.List.{take_all}
use Rattle.std.specs.List.{filter_map}
use Rattle.datagram.specs.declared.reading.Ask.{Ask}
use Rattle.core_steps.specs.Hearing.{task_for}
use Rattle.core_steps.specs.Machine.{task_of}
use Rattle.core_steps.proofs.HearingLemmas.{refusal_one_more, task_one_more}
use Rattle.core_steps.proofs.follow_ups.push_asks.Goals as goal

pub loop-ask-preserved : goal.loop-ask-preserved
loop-ask-preserved c = record {
  follow_ups = task_one_more (task_for c.args.links.now c.args.room.now c.args.endpoint) c.loop-ask.ask-index c.args.asks.now _
      c.args.follow_ups.now.items c.loop-ask.follow_ups.items c.push_or_refuse.new.follow_ups.items c.follow_up.result
      c.loop-ask-test.true c.loop-ask.invariant.follow_ups c.follow_up.ensures c.push_or_refuse.ensures.follow_ups;
  outs = refusal_one_more (task_for c.args.links.now c.args.room.now c.args.endpoint) c.loop-ask.ask-index c.args.asks.now _
      c.args.outs.now.items c.loop-ask.outs.items c.push_or_refuse.new.outs.items c.follow_up.result
      c.loop-ask-test.true c.loop-ask.invariant.outs c.follow_up.ensures c.push_or_refuse.ensures.outs;
  len = omega (arith, c.push_or_refuse.ensures.len, c.loop-ask.invariant.len);
  outs_len = omega (arith, c.push_or_refuse.ensures.outs_len, c.loop-ask.invariant.outs_len);
  capacity = c.push_or_refuse.ensures.capacity ∙ c.loop-ask.invariant.capacity;
  outs_capacity = c.push_or_refuse.ensures.outs_capacity ∙ c.loop-ask.invariant.outs_capacity;
}

pub returns-clause-follow_ups : goal.returns-clause-follow_ups
returns-clause-follow_ups c =
    λ bits. c.loop-ask.invariant.follow_ups bits
    ∙ ap (λ (asks : List Ask). map (task_of bits) c.args.follow_ups.now.items
    ++ filter_map (task_for c.args.links.now c.args.room.now c.args.endpoint) asks)
    (take_all c.loop-ask.ask-index c.args.asks.now c.loop-ask-test.false)
