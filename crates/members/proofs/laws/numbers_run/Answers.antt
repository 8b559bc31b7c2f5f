use Rattle.members.proofs.DrawnLemmas.{runs_law}
use Rattle.members.proofs.laws.numbers_run.Goals as goal

pub returns : goal.returns
returns c = λ s calls. runs_law s calls
