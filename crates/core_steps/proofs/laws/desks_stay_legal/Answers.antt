use Rattle.core_steps.proofs.HistoryLemmas.{desks_stay_legal}
use Rattle.core_steps.proofs.laws.desks_stay_legal.Goals as goal

pub returns : goal.returns
returns c = desks_stay_legal
