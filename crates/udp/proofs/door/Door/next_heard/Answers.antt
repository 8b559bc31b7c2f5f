use Rattle.udp.proofs.DoorLemmas.{more_else, more_found}
use Rattle.udp.proofs.door.Door.next_heard.Goals as goal

pub returns-in-Some-2-clause-more : goal.returns-in-Some-2-clause-more
returns-in-Some-2-clause-more g c = λ _ _.
    more_found _ _ _ _ _ _ _ _ _ c.in-Some-2.is c.in_ok-moment.ensures.before c.in_ok-moment.ensures.now c.let_in-in-Some-2.ensures

pub returns-in_ok-came-in-None-clause-more : goal.returns-in_ok-came-in-None-clause-more
returns-in_ok-came-in-None-clause-more g c = λ _ _.
    more_else _ _ _ _ _ _ _ _ _ c.in-None.is c.in_ok-moment.ensures.before c.in_ok-came-in-None.ensures.goes
