use Rattle.members.proofs.reception.Reception.block.Goals as goal

pub fraction_lost-requires : goal.fraction_lost-requires
fraction_lost-requires c = c.self.invariant _ c.in_ok-stream.was
