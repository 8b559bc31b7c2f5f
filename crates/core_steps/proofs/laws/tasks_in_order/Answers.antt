use Rattle.core_steps.proofs.HistoryLemmas.{tasks_in_order}
use Rattle.core_steps.proofs.laws.tasks_in_order.Goals as goal

pub returns : goal.returns
returns c = tasks_in_order
