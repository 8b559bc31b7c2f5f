use Rattle.std.proofs.Common.{◌≡◌, ◌++◌, take}
use Rattle.std.specs.Prelude.{flat_map}
use Rattle.std.specs.String.{string_bytes}
use Rattle.stats.specs.declared.report_figures.ReportFigure.{ReportFigure}
use Rattle.stats.specs.ReportFigures.{report_figure_text}
use Rattle.stats.proofs.report_figures.push_each_figure.Given as goal

abbrev pub invariant-loop-figure : goal.invariant-loop-figure
invariant-loop-figure l = string_bytes l.text ≡ string_bytes l.fn.text ++ flat_map (λ (f : ReportFigure). report_figure_text f l.moment l.subjects l.reports) (take l.figure-index l.figures)
