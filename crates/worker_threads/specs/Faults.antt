-- How many receives failed in a row.
use Rattle.std.specs.Prelude.{ℕ, Bool, true, false}
use Rattle.core_steps.specs.Happening.{capped_count}

-- how many receives failed in a row, once one more ended, well or not; silence is no failure
abbrev pub faults_after : ℕ → Bool → ℕ
faults_after in_a_row true = 0
faults_after in_a_row false = capped_count in_a_row 1
