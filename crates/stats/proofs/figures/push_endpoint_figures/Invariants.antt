use Rattle.std.proofs.Common.{◌≡◌, ◌++◌, take}
use Rattle.std.specs.Prelude.{flat_map}
use Rattle.std.specs.String.{string_bytes}
use Rattle.stats.specs.declared.figures.EndpointFigure.{EndpointFigure}
use Rattle.stats.specs.Figures.{endpoint_text}
use Rattle.stats.proofs.figures.push_endpoint_figures.Given as goal

abbrev pub invariant-loop-figure : goal.invariant-loop-figure
invariant-loop-figure l = string_bytes l.text ≡ string_bytes l.fn.text ++ flat_map (λ (f : EndpointFigure). endpoint_text f l.subjects l.endpoints) (take l.figure-index l.figures)
