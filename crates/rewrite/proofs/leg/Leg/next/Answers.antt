use Rattle.std.proofs.Common.{◌≡◌, subst}
use Rattle.rewrite.specs.Leg.{IsWithinLimit}
use Rattle.rewrite.proofs.leg.Leg.next.Goals as goal

pub take-requires : goal.take-requires
take-requires c = c.self.invariant _ c.in-Some.is

pub invariant_of-self : goal.invariant_of-self
invariant_of-self c = λ x e.
    let same : c.take.new.self ≡ x = cc in
    subst IsWithinLimit same c.take.ensures.within

pub last_number-start-requires : goal.last_number-start-requires
last_number-start-requires c = c.self.invariant _ c.in-Some.is
