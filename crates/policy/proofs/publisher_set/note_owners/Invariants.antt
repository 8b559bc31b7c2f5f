use Rattle.std.proofs.Common.{◌≡◌, map, take}
use Rattle.policy.specs.AnnouncedSets.{owner_of}
use Rattle.policy.proofs.publisher_set.note_owners.Given as goal

abbrev pub invariant-loop-entry : goal.invariant-loop-entry
invariant-loop-entry l = l.owners.items ≡ map owner_of (take l.entry-index l.set)
