use Rattle.core_steps.proofs.HistoryLemmas.{given_up_where_full}
use Rattle.core_steps.proofs.laws.given_up_where_full.Goals as goal

pub returns : goal.returns
returns c = given_up_where_full
