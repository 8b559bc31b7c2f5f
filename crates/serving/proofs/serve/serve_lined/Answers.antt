use Rattle.serving.proofs.ServeLemmas.{ends_so}
use Rattle.serving.proofs.serve.serve_lined.Goals as goal

pub returns-in-Ok-clause-ends : goal.returns-in-Ok-clause-ends
returns-in-Ok-clause-ends g c =
    ends_so _ _ _ _ _ _ _ _ c.serve_told-served.result c.ended.result c.turns.ensures c.serve_told-served.ensures.done
    c.serve_told-served.ensures.refused c.ended.ensures.ends

pub returns-in-None-clause-ends : goal.returns-in-None-clause-ends
returns-in-None-clause-ends g c =
    ends_so _ _ _ _ _ _ _ _ c.serve_on-served.result c.ended-in-None.result c.turns.ensures c.serve_on-served.ensures.done
    c.serve_on-served.ensures.refused c.ended-in-None.ensures.ends
