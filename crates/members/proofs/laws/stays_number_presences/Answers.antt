use Rattle.members.proofs.LastLemmas.{last_law}
use Rattle.members.proofs.laws.stays_number_presences.Goals as goal

pub returns : goal.returns
returns c = λ s before after leg range below some. last_law s before after leg range below some
