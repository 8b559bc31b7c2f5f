use Rattle.core_steps.proofs.HistoryLemmas.{jobs_in_order}
use Rattle.core_steps.proofs.laws.jobs_in_order.Goals as goal

pub returns : goal.returns
returns c = jobs_in_order
