use Rattle.udp.proofs.PolicyLemmas.{hears_far}
use Rattle.udp.specs.Policies.{ruling_of}
use Rattle.udp.proofs.hearing.Hearing.hear_anew.Goals as goal

pub returns-clause-far : goal.returns-clause-far
returns-clause-far c near there =
    let far = c.in-Some.ensures.far in
    hears_far _ _ _ _ _ c.take_far.new.kept (ruling_of c.take_far.new.self) c.in-Some.to far (c.hear_again-2.ensures.packet far.behind far.within)
