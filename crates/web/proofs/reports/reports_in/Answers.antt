use Rattle.std.proofs.Common.{◌≡◌, ◌∙◌, ℕ, Bor, List, ap, subst}
use Rattle.std.specs.Prelude.{flat_map, IfOk}
use Rattle.web.specs.declared.reports.ReceptionLine.{ReceptionLine}
use Rattle.web.specs.Reports.{line_reports, reports_in}
use Rattle.web.proofs.LineLemmas.{flat_map_now}
use Rattle.web.proofs.reports.reports_in.Goals as goal

pub returns : goal.returns
unfolding reports_in
returns c =
    let e = ap (λ xs. flat_map (λ (x : Bor (List ℕ)). line_reports x.now) xs) c.as_slice.ensures.value ∙ flat_map_now line_reports c.in_ok-lines.lines.items ∙ ap (flat_map line_reports) c.in_ok-lines.ensures in
    subst (λ (t : List ReceptionLine). IfOk c.reports_of.result (λ v. v.items ≡ t)) e c.reports_of.ensures
