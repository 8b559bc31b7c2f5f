use Rattle.std.proofs.Common.{◌≡◌, ◌++◌, drop}
use Rattle.std.specs.List.{enumerate_from}
use Rattle.legs.specs.Legs.{owned_by, new_legs}
use Rattle.legs.proofs.legs.owned.Given as goal

abbrev pub invariant-loop-number : goal.invariant-loop-number
invariant-loop-number l =
    l.legs.items ++ owned_by l.links l.ring l.worker (enumerate_from l.number (drop l.number l.links.legs)) ≡ new_legs l.links l.ring l.worker
