use Rattle.std.proofs.Common.{map}
use Rattle.operations.specs.UnitInfo.{subject_says}
use Rattle.operations.proofs.UnitInfoLemmas.{SubjectsLeft}
use Rattle.operations.proofs.unit_info.subjects_of.Given as goal

abbrev pub invariant-loop-number : goal.invariant-loop-number
invariant-loop-number l = SubjectsLeft l.names l.texts l.number (map subject_says l.subjects.items)
