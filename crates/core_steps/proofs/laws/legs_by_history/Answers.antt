use Rattle.core_steps.proofs.NumberedLemmas.{legs_by_history, new_legs_by_history}
use Rattle.core_steps.proofs.laws.legs_by_history.Goals as goal

pub returns-clause-legs : goal.returns-clause-legs
returns-clause-legs c = legs_by_history

pub returns-clause-all : goal.returns-clause-all
returns-clause-all c = new_legs_by_history
