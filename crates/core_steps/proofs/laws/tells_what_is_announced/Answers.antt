use Rattle.core_steps.proofs.HistoryLemmas.{tells_what_is_announced}
use Rattle.core_steps.proofs.laws.tells_what_is_announced.Goals as goal

pub returns : goal.returns
returns c = tells_what_is_announced
