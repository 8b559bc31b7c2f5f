use Rattle.addresses.proofs.ServedLemmas.{gives_places, served_of_placed, served_of_problem}
use Rattle.addresses.proofs.served_file.read_served.Goals as goal

pub returns-in-Ok-clause-ok : goal.returns-in-Ok-clause-ok
returns-in-Ok-clause-ok c = gives_places _ _ _ c.placed.result c.in-Ok.ensures c.placed.ensures.ok

pub returns-in-Ok-clause-err : goal.returns-in-Ok-clause-err
returns-in-Ok-clause-err c = served_of_placed _ c.placed.result c.placed.ensures.err

pub returns-in-Err-clause-err : goal.returns-in-Err-clause-err
returns-in-Err-clause-err c = served_of_problem _ _ _ c.first_problem.ensures c.in-Err.ensures
