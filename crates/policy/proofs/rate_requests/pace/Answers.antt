use Rattle.policy.proofs.HearingLemmas.{paced_as_heard}
use Rattle.policy.proofs.rate_requests.pace.Goals as goal

pub returns-clause-as_heard : goal.returns-clause-as_heard
returns-clause-as_heard c = λ came h. paced_as_heard _ _ _ _ _ _ _ _ came c.pace_word.ensures h
