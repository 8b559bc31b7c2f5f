use Rattle.std.proofs.Common.{◌≡◌, ◌∙◌, ◌++◌, ℕ, ap, arith, map}
use Rattle.std.specs.Prelude.{◌&&◌}
use Rattle.members.specs.Presence.{is_present_at}
use Rattle.core_steps.specs.Hearing.{upstream_reports}
use Rattle.core_steps.specs.Machine.{setup_of, task_of}
use Rattle.core_steps.specs.Rounds.{comes_between}
use Rattle.core_steps.specs.World.{report}
use Rattle.core_steps.proofs.HearingLemmas.{chosen_one_more}
use Rattle.core_steps.proofs.reporting.push_upstream_reports.Goals as goal

pub loop-endpoint-preserved : goal.loop-endpoint-preserved
loop-endpoint-preserved c = record {
  items = chosen_one_more
      (λ e. is_present_at c.args.room.now.endpoints e && comes_between (setup_of c.args.setup.now) c.args.slots.done c.args.slots.come e)
      (λ bytes. report) c.loop-endpoint.endpoint c.args.follow_ups.now.items
      c.loop-endpoint.follow_ups.items c.push_some.new.follow_ups.items c.upstream_report.result c.loop-endpoint.invariant.items
      c.upstream_report.ensures c.push_some.ensures.items;
  len = omega (arith, c.push_some.ensures.len, c.loop-endpoint.invariant.len);
  capacity = c.push_some.ensures.capacity ∙ c.loop-endpoint.invariant.capacity;
}

pub returns-clause-items : goal.returns-clause-items
returns-clause-items c =
    let end : c.loop-endpoint.endpoint ≡ c.args.endpoints = omega (arith, c.loop-endpoint.auto.endpoint-end, c.loop-endpoint-test.false) in
    λ bits. c.loop-endpoint.invariant.items bits
    ∙ ap (λ (n : ℕ). map (task_of bits) c.args.follow_ups.now.items
    ++ upstream_reports c.args.room.now (comes_between (setup_of c.args.setup.now) c.args.slots.done c.args.slots.come) n) end
