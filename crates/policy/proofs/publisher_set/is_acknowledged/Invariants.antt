use Rattle.std.proofs.Common.{◌≡◌, drop}
use Rattle.std.specs.List.{list_any}
use Rattle.policy.specs.AnnouncedSets.{is_same}
use Rattle.policy.proofs.publisher_set.is_acknowledged.Given as goal

abbrev pub invariant-loop-other : goal.invariant-loop-other
invariant-loop-other l = list_any (is_same l.entry) (drop l.other-index l.acknowledged) ≡ list_any (is_same l.entry) l.acknowledged
