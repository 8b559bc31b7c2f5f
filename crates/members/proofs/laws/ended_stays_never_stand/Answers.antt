use Rattle.members.proofs.EndedLemmas.{ended_law}
use Rattle.members.proofs.laws.ended_stays_never_stand.Goals as goal

pub returns : goal.returns
returns c = λ s before after. ended_law s before after
