use Rattle.desk.proofs.OneScheduleLemmas.{one_schedule}
use Rattle.desk.proofs.laws.one_pli_schedule.Goals as goal

pub returns : goal.returns
returns c = one_schedule
