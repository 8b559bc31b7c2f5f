use Rattle.datagram.proofs.NoteLemmas.{ok_is_no_err}
use Rattle.datagram.proofs.kinds.kinds_of.Goals as goal

pub returns-in-Ok-clause-none : goal.returns-in-Ok-clause-none
returns-in-Ok-clause-none c = λ fault refuses. absurd (ok_is_no_err c.in-Ok.packets fault (c.in-Ok.ensures.first fault refuses))
