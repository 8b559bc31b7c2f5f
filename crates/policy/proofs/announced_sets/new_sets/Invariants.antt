use Rattle.std.proofs.Common.{◌≡◌}
use Rattle.std.specs.Prelude.{replicate}
use Rattle.policy.specs.AnnouncedSets.{new_set}
use Rattle.policy.proofs.announced_sets.new_sets.Given as goal

abbrev pub invariant-loop-publisher : goal.invariant-loop-publisher
invariant-loop-publisher l = l.sets.items ≡ replicate l._publisher new_set
