use Rattle.std.proofs.Common.{◌≡◌, ◌++◌, take}
use Rattle.std.specs.Prelude.{flat_map}
use Rattle.std.specs.String.{string_bytes}
use Rattle.stats.specs.ReportFigures.{report_line}
use Rattle.stats.proofs.report_figures.push_readings.Given as goal

abbrev pub invariant-loop-numbered : goal.invariant-loop-numbered
invariant-loop-numbered l = string_bytes l.text ≡ string_bytes l.fn.text ++ flat_map (report_line l.figure l.moment l.subjects) (take l.numbered-index l.reports)
