use Rattle.std.proofs.Common.{◌≡◌, drop}
use Rattle.policy.specs.AnnouncedSets.{next_watched}
use Rattle.policy.proofs.announced_sets.next_watched.Given as goal

abbrev pub invariant-loop-number : goal.invariant-loop-number
invariant-loop-number l = next_watched l.from l.number (drop l.number l.publishers) ≡ next_watched l.from 0 l.publishers
