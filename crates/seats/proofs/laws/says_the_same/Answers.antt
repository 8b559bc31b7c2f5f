use Rattle.seats.proofs.SayingLemmas.{is_heard}
use Rattle.seats.proofs.WholeLemmas.{heard_refuses}
use Rattle.seats.proofs.laws.says_the_same.Goals as goal

pub returns-clause-said : goal.returns-clause-said
returns-clause-said c = is_heard

pub returns-clause-faulty : goal.returns-clause-faulty
returns-clause-faulty c = heard_refuses
