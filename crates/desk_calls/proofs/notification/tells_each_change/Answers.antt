use Rattle.desk_calls.proofs.ChangeLemmas.{unchanged_iff}
use Rattle.desk_calls.proofs.notification.tells_each_change.Goals as goal

pub returns : goal.returns
returns c = unchanged_iff
