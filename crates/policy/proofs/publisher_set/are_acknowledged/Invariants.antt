use Rattle.std.proofs.Common.{◌≡◌, drop}
use Rattle.policy.specs.AnnouncedSets.{are_acknowledged}
use Rattle.policy.proofs.publisher_set.are_acknowledged.Given as goal

abbrev pub invariant-loop-entry : goal.invariant-loop-entry
invariant-loop-entry l = are_acknowledged l.acknowledged (drop l.entry-index l.set) ≡ are_acknowledged l.acknowledged l.set
