use Rattle.std.proofs.Common.{◌≡◌, ◌++◌, length}
use Rattle.leg_numbers.specs.Numbers.{numbers_in}
use Rattle.leg_numbers.proofs.file.numbers_of.Given as goal

abbrev pub invariant-loop-number : goal.invariant-loop-number
invariant-loop-number l = l.numbers.items ++ numbers_in l.rest ≡ numbers_in l.bytes

abbrev pub decreases-loop-number : goal.decreases-loop-number
decreases-loop-number l = length l.rest
