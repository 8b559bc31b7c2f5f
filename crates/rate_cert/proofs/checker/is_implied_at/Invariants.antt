use Rattle.std.specs.List.{AllWithin}
use Rattle.rate_cert.specs.Certificate.{IsImpliedIfAt}
use Rattle.rate_cert.proofs.checker.is_implied_at.Given as goal

abbrev pub invariant-loop-i : goal.invariant-loop-i
invariant-loop-i l = AllWithin (IsImpliedIfAt l.requests l.place) l.implied 0 l.i-index
