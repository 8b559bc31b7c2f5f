use Rattle.std.proofs.Common.{◌≡◌, ◌∙◌, ◌++◌, ℕ, ap, arith, map}
use Rattle.members.specs.Presence.{is_present_at}
use Rattle.core_steps.specs.FollowUps.{task_due, tasks_due}
use Rattle.core_steps.specs.Machine.{task_of}
use Rattle.core_steps.proofs.HearingLemmas.{chosen_one_more}
use Rattle.core_steps.proofs.ticking.push_due.Goals as goal

pub loop-endpoint-preserved : goal.loop-endpoint-preserved
loop-endpoint-preserved c = record {
  items = chosen_one_more (is_present_at c.args.room.now.endpoints) (λ bytes. task_due c.args.due) c.loop-endpoint.endpoint c.args.follow_ups.now.items
      c.loop-endpoint.follow_ups.items c.push_some.new.follow_ups.items c.due_to.result c.loop-endpoint.invariant.items
      c.due_to.ensures c.push_some.ensures.items;
  len = omega (arith, c.push_some.ensures.len, c.loop-endpoint.invariant.len);
  capacity = c.push_some.ensures.capacity ∙ c.loop-endpoint.invariant.capacity;
}

pub returns-clause-items : goal.returns-clause-items
returns-clause-items c =
    let end : c.loop-endpoint.endpoint ≡ c.args.endpoints = omega (arith, c.loop-endpoint.auto.endpoint-end, c.loop-endpoint-test.false) in
    λ bits. c.loop-endpoint.invariant.items bits
    ∙ ap (λ (n : ℕ). map (task_of bits) c.args.follow_ups.now.items ++ tasks_due c.args.due c.args.room.now n) end
