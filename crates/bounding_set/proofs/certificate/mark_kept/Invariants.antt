use Rattle.std.proofs.Common.{take}
use Rattle.bounding_set.specs.Kept.{IsMarked}
use Rattle.bounding_set.proofs.certificate.mark_kept.Given as goal

abbrev pub invariant-loop-entry : goal.invariant-loop-entry
invariant-loop-entry l = IsMarked (take l.entry-index l.kept) l.marks
