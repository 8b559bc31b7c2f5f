use Rattle.std.proofs.Common.{◌++◌, ◌∷◌, [], ◌∙◌, ap, map}
use Rattle.operations.specs.UnitInfo.{endpoint_subject, subject_says}
use Rattle.operations.proofs.UnitInfoLemmas.{subject_passed}
use Rattle.operations.proofs.unit_info.subjects_of.Goals as goal

pub loop-number-preserved : goal.loop-number-preserved
loop-number-preserved c =
    let text = c.index-texts-number.result in
    let before = map subject_says c.loop-number.subjects.items in
    subject_passed c.args.names.now c.args.texts.now c.loop-number.number text before (map subject_says c.push_subject.new.subjects.items)
    c.endpoint_at.result c.endpoint_at.ensures
    (c.in_ok-push_subject.ensures ∙ ap (λ t. before ++ endpoint_subject c.args.names.now c.endpoint_at.result t ∷ []) c.index-texts-number.is)
    c.loop-number-test.true c.loop-number.invariant
