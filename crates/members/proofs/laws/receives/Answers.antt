use Rattle.members.proofs.ReceptionLemmas.{heard_after-is, answers_by, highest-is}
use Rattle.members.proofs.laws.receives.Goals as goal

pub returns-clause-values : goal.returns-clause-values
returns-clause-values c = heard_after-is

pub returns-clause-answers : goal.returns-clause-answers
returns-clause-answers c = answers_by

pub returns-clause-highest : goal.returns-clause-highest
returns-clause-highest c = highest-is
