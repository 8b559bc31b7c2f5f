use Rattle.std.proofs.Common.{◌≡◌, length}
use Rattle.legs.proofs.plan.Plan.take_back.Given as goal

abbrev pub invariant-loop-out : goal.invariant-loop-out
invariant-loop-out l = l.self-inside.planned.items ≡ l.initial.self-inside.planned.items

abbrev pub decreases-loop-out : goal.decreases-loop-out
decreases-loop-out l = length l.outs.items
