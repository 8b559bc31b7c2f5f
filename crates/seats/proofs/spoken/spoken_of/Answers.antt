use Rattle.datagram.proofs.NoteLemmas.{ok_is_no_err}
use Rattle.seats.proofs.spoken.spoken_of.Goals as goal

pub returns-in-Ok-clause-refused : goal.returns-in-Ok-clause-refused
returns-in-Ok-clause-refused c = λ fault refuses. absurd (ok_is_no_err c.in-Ok.packets fault (c.in-Ok.ensures.first fault refuses))
