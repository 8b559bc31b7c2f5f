use Rattle.std.proofs.Common.{◌≡◌, ◌≤◌, filter, length, take}
use Rattle.policy.specs.AnnouncedSets.{is_lifted_again}
use Rattle.policy.proofs.publisher_set.lifted_again.Given as goal

abbrev pub invariant-loop-source : goal.invariant-loop-source
invariant-loop-source l = record {
  these : l.lifted.items ≡ filter (is_lifted_again l.publisher l.set l.own) (take l.source-index l.sources);
  few : length l.lifted.items ≤ l.source-index;
}
