use Rattle.std.proofs.Common.{◌∙◌, ◌++◌, List, ap, arith, map}
use Rattle.std.proofs.lemmas.List.{take_all}
use Rattle.std.specs.List.{enumerate_from, flat_map}
use Rattle.settings.specs.declared.settings.LegSettings.{LegSettings}
use Rattle.core_steps.specs.Hearing.{leg_report_if}
use Rattle.core_steps.specs.Machine.{setup_of, task_of}
use Rattle.core_steps.specs.Rounds.{comes_between}
use Rattle.core_steps.proofs.HearingLemmas.{listed_one_more}
use Rattle.core_steps.proofs.reporting.push_leg_reports.Goals as goal

pub loop-number-preserved : goal.loop-number-preserved
loop-number-preserved c = record {
  items = listed_one_more (leg_report_if c.args.setup.now.links c.args.room.now (comes_between (setup_of c.args.setup.now) c.args.slots.done c.args.slots.come))
      c.loop-number.number c.args.legs.now _
      c.args.follow_ups.now.items c.loop-number.follow_ups.items c.push_some.new.follow_ups.items c.leg_report_if.result
      c.loop-number-test.true c.loop-number.invariant.items c.leg_report_if.ensures c.push_some.ensures.items;
  len = omega (arith, c.push_some.ensures.len, c.loop-number.invariant.len);
  capacity = c.push_some.ensures.capacity ∙ c.loop-number.invariant.capacity;
}

pub returns : goal.returns
returns c =
    λ bits. c.loop-number.invariant.items bits
    ∙ ap (λ (legs : List LegSettings). map (task_of bits) c.args.follow_ups.now.items
    ++ flat_map (leg_report_if c.args.setup.now.links c.args.room.now (comes_between (setup_of c.args.setup.now) c.args.slots.done c.args.slots.come))
    (enumerate_from 0 legs))
    (take_all c.loop-number.number c.args.legs.now c.loop-number-test.false)
