use Rattle.std.proofs.Common.{◌≡◌, ◌++◌, drop}
use Rattle.std.specs.List.{enumerate_from}
use Rattle.settings.specs.Links.{leg_numbers_of}
use Rattle.settings.proofs.links.published_by.Given as goal

abbrev pub invariant-loop-number : goal.invariant-loop-number
invariant-loop-number l =
    l.numbers.items ++ leg_numbers_of l.publisher (enumerate_from l.number (drop l.number l.legs)) ≡ leg_numbers_of l.publisher (enumerate_from 0 l.legs)
