use Rattle.std.proofs.Common.{◌≡◌, drop}
use Rattle.web.specs.Reports.{report_of}
use Rattle.web.proofs.reports.report_of.Given as goal

abbrev pub invariant-loop-report : goal.invariant-loop-report
invariant-loop-report l = report_of l.reports l.about ≡ report_of (drop l.report-index l.reports) l.about
