use Rattle.members.proofs.NumberLemmas.{rise_law}
use Rattle.members.proofs.laws.stays_rise.Goals as goal

pub returns : goal.returns
returns c = λ s calls. rise_law s calls
