use Rattle.core_steps.proofs.EveryRoundLemmas.{at_once_along}
use Rattle.core_steps.proofs.laws.one_slot_is_all_at_once.Goals as goal

pub returns : goal.returns
returns c = at_once_along
