use Rattle.core_steps.proofs.QuietLemmas.{last_heard_is_live}
use Rattle.core_steps.proofs.quiet.last_heard_is_live.Goals as goal

pub returns : goal.returns
returns c = last_heard_is_live
