use Rattle.std.proofs.Common.{◌<◌, ◌≤◌, ℕ, length}
use Rattle.std.specs.Prelude.{slice_index}
use Rattle.control_protocol.proofs.places.most_silent.Given as goal

abbrev pub invariant-loop-number : goal.invariant-loop-number
invariant-loop-number l = (l.longest < length l.silences)
    × ((j : ℕ) → j < l.number → slice_index l.silences j ≤ slice_index l.silences l.longest)
