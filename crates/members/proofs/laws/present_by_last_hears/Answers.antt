use Rattle.members.proofs.CallLemmas.{presence_law, moment_law}
use Rattle.members.proofs.laws.present_by_last_hears.Goals as goal

pub returns-clause-present : goal.returns-clause-present
returns-clause-present c = λ s calls endpoint range inside. presence_law s calls endpoint range.least_timeout inside

pub returns-clause-moment : goal.returns-clause-moment
returns-clause-moment c = λ s calls range. moment_law s calls 0 range.least_timeout range.least_endpoints
