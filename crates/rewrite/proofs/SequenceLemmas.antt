-- The extended number is the near one.
use Rattle.std.proofs.Common.{ℕ, ◌<◌, ◌≤◌, arith}
use Rattle.rewrite.specs.Sequence.{IsExtendedNumber, extended_number}
use Rattle.rewrite.specs.declared.sequence.TheConstants.{SEQ_CYCLE, SEQ_REACH}

pub extended_number-is : (highest seq : ℕ) → SEQ_REACH ≤ highest → seq < SEQ_CYCLE → IsExtendedNumber highest seq (extended_number highest seq)
extended_number-is highest seq reach fits = record { congruent = omega arith; at_least = omega arith; below = omega arith }
