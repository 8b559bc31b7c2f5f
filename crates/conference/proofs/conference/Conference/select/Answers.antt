use Rattle.conference.proofs.conference.Conference.select.Goals as goal

pub returns-clause-ok : goal.returns-clause-ok
returns-clause-ok c = c.take.ensures.ok

pub returns-clause-err : goal.returns-clause-err
returns-clause-err c = c.take.ensures.err
