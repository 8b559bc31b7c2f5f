use Rattle.conference.proofs.ServedLemmas.{hands_out}
use Rattle.conference.proofs.laws.takes_in_order.Goals as goal

pub returns : goal.returns
returns c = hands_out
