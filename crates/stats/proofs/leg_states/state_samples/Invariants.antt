use Rattle.std.proofs.Common.{◌≡◌, take}
use Rattle.std.specs.Prelude.{flat_map}
use Rattle.stats.specs.LegStates.{state_sample}
use Rattle.stats.proofs.leg_states.state_samples.Given as goal

abbrev pub invariant-loop-state : goal.invariant-loop-state
invariant-loop-state l = l.samples.items ≡ flat_map (state_sample l.figure) (take l.state-index l.states)
