use Rattle.policy.proofs.HearingLemmas.{left_as_heard}
use Rattle.policy.proofs.held_requests.HeldRequests.hear.Goals as goal

pub returns-clause-as_heard : goal.returns-clause-as_heard
returns-clause-as_heard c = λ came h. left_as_heard _ _ _ _ _ _ came c.note.ensures.asks h
