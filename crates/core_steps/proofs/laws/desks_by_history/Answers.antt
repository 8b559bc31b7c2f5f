use Rattle.core_steps.proofs.TraceLemmas.{desks_by_history}
use Rattle.core_steps.proofs.laws.desks_by_history.Goals as goal

pub returns : goal.returns
returns c = desks_by_history
