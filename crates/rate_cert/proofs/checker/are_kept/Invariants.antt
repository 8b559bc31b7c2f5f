use Rattle.std.specs.List.{AllWithin}
use Rattle.rate_cert.specs.Certificate.{HasNeighbours}
use Rattle.rate_cert.proofs.checker.are_kept.Given as goal

abbrev pub invariant-loop-i : goal.invariant-loop-i
invariant-loop-i l = AllWithin (HasNeighbours l.places) l.implied 0 l.i-index
