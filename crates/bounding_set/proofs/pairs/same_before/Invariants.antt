use Rattle.std.proofs.Common.{◌-◌, ◌≡◌, ◌≤◌, length, take}
use Rattle.bounding_set.proofs.pairs.same_before.Given as goal

abbrev pub invariant-loop-count : goal.invariant-loop-count
invariant-loop-count l = record {
  within_a : l.count ≤ length l.a;
  within_b : l.count ≤ length l.b;
  same : take l.count l.a ≡ take l.count l.b;
}

abbrev pub decreases-loop-count : goal.decreases-loop-count
decreases-loop-count l = l.most - l.count
