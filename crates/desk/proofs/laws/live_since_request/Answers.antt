use Rattle.desk.proofs.RequestLemmas.{request_law, absent_law}
use Rattle.desk.proofs.laws.live_since_request.Goals as goal

pub returns-clause-absent : goal.returns-clause-absent
returns-clause-absent c = λ gap ms base entries owner t. absent_law gap ms base entries owner t.begins t.stays t.legal

pub returns-clause-live : goal.returns-clause-live
returns-clause-live c =
    λ gap ms base entries owner stay from tuple t. request_law gap ms base entries owner stay from tuple t.begins t.stays t.legal
