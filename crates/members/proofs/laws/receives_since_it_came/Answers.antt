use Rattle.members.proofs.ReceivedLemmas.{reception_law, answer_law}
use Rattle.members.proofs.laws.receives_since_it_came.Goals as goal

pub returns-clause-values : goal.returns-clause-values
returns-clause-values c = λ s calls endpoint range inside. reception_law s calls endpoint range.least_timeout inside

pub returns-clause-answers : goal.returns-clause-answers
returns-clause-answers c = λ s calls endpoint moment source answer range inside. answer_law s calls endpoint moment source answer range.least_timeout inside
