-- Pairs that a tuple permits or forbids.
use Rattle.std.proofs.Common.{arith}
use Rattle.tmmbr_tuple.specs.declared.tuple.Tuple.{Tuple}
use Rattle.tmmbr_tuple.specs.RatePair.{RatePair, Permits, Forbids}

pub Forbids-from_not_Permits : (t : Tuple) (p : RatePair) → (Permits t p → ⊥) → Forbids t p
Forbids-from_not_Permits t p h = omega arith

pub not_both : (t : Tuple) (p : RatePair) → Permits t p → Forbids t p → ⊥
not_both t p h k = omega arith
