use Rattle.std.proofs.Common.{◌≡◌, drop}
use Rattle.policy.specs.Nacks.{entry_from, entry_of}
use Rattle.policy.specs.LegResends.{book_after, numbers_passed}
use Rattle.policy.proofs.nacks.part_due.Given as goal

abbrev pub invariant-loop-number : goal.invariant-loop-number
invariant-loop-number l = record {
  named : entry_from l.part (numbers_passed l.book l.allowance (drop l.number-index l.numbers))
      ≡ entry_of (numbers_passed l.fn.book l.allowance l.numbers);
  noted : book_after l.book l.allowance (drop l.number-index l.numbers)
      ≡ book_after l.fn.book l.allowance l.numbers;
}
