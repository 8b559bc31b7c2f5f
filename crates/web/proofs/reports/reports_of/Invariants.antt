use Rattle.std.proofs.Common.{◌≡◌, List, ℕ, Bor, take}
use Rattle.std.specs.Prelude.{flat_map}
use Rattle.web.specs.Reports.{line_reports}
use Rattle.web.proofs.reports.reports_of.Given as goal

abbrev pub invariant-loop-line : goal.invariant-loop-line
invariant-loop-line l =
    l.reports.items ≡ flat_map (λ (x : Bor (List ℕ)). line_reports x.now) (take l.line-index l.lines)
