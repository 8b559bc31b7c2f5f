use Rattle.desk.proofs.SinceLemmas.{present_law}
use Rattle.desk.proofs.laws.present_since_arrival.Goals as goal

pub returns : goal.returns
returns c = present_law
