use Rattle.members.proofs.reception.Reception.received.Goals as goal

pub count-requires : goal.count-requires
count-requires c = c.self.invariant _ c.in-Some.is
