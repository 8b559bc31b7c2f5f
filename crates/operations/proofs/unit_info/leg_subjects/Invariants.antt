use Rattle.std.proofs.Common.{◌≡◌, map, take}
use Rattle.operations.specs.UnitInfo.{leg_subject, subject_says}
use Rattle.operations.proofs.unit_info.leg_subjects.Given as goal

abbrev pub invariant-loop-line : goal.invariant-loop-line
invariant-loop-line l = map subject_says l.subjects.items ≡ map (leg_subject l.names l.texts) (take l.line-index l.legs)
