use Rattle.std.proofs.Common.{◌≡◌, ◌++◌, take}
use Rattle.std.specs.Prelude.{flat_map}
use Rattle.std.specs.String.{string_bytes}
use Rattle.stats.specs.declared.leg_states.StateFigure.{StateFigure}
use Rattle.stats.specs.LegStates.{state_text}
use Rattle.stats.proofs.leg_states.push_state_figures.Given as goal

abbrev pub invariant-loop-figure : goal.invariant-loop-figure
invariant-loop-figure l = string_bytes l.text ≡ string_bytes l.fn.text ++ flat_map (λ (f : StateFigure). state_text f l.subjects l.states) (take l.figure-index l.figures)
