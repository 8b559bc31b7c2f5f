use Rattle.std.proofs.Common.{◌≡◌, ◌+◌, ◌≤◌, ◌++◌, length}
use Rattle.std.specs.Prelude.{reverse, vec_len, vec_capacity}
use Rattle.legs.specs.Plan.{legs_after_plan, plan_outs}
use Rattle.legs.proofs.plan.Plan.apply_to.Given as goal

abbrev pub invariant-loop-planned : goal.invariant-loop-planned
invariant-loop-planned l = record {
  legs : legs_after_plan l.legs (reverse l.self-inside.planned.items) ≡ legs_after_plan l.initial.legs (reverse l.initial.self-inside.planned.items);
  outs : l.outs.items ++ plan_outs (reverse l.self-inside.planned.items) ≡ l.initial.outs.items ++ plan_outs (reverse l.initial.self-inside.planned.items);
  room : vec_len l.outs + length l.self-inside.planned.items ≤ vec_capacity l.outs;
}

abbrev pub decreases-loop-planned : goal.decreases-loop-planned
decreases-loop-planned l = length l.self-inside.planned.items
