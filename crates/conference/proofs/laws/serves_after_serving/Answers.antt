use Rattle.conference.proofs.ServedLemmas.{serves_on}
use Rattle.conference.proofs.laws.serves_after_serving.Goals as goal

pub returns : goal.returns
returns c = serves_on
