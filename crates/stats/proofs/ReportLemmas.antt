-- Reports that are shown.
use Rattle.std.proofs.Common.{ℕ, List, [], ◌∷◌, ◌++◌}
use Rattle.std.specs.Prelude.{IsTrue}
use Rattle.std.proofs.lemmas.List.Elements.{All-append, All-cons, All-nil}
use Rattle.stats.specs.declared.numbered_report.NumberedReport.{NumberedReport}
use Rattle.stats.specs.Reports.{AreShown, is_shown}

-- one more that is shown
pub shown_more : (reports : List NumberedReport) (n : NumberedReport) (moment : ℕ) → AreShown reports moment → IsTrue (is_shown n.report moment)
    → AreShown (reports ++ n ∷ []) moment
shown_more reports n moment are one =
    let P : NumberedReport → Type 0 = λ x. IsTrue (is_shown x.report moment) in
    All-append P reports (n ∷ []) are (All-cons P n [] one (All-nil P))
