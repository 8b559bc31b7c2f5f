use Rattle.core_steps.proofs.HistoryLemmas.{runs_join}
use Rattle.core_steps.proofs.laws.runs_join.Goals as goal

pub returns : goal.returns
returns c = runs_join
