use Rattle.core_steps.specs.Opening.{setup_by}
use Rattle.core_steps.proofs.EveryRoundLemmas.{due_once}
use Rattle.core_steps.proofs.RoundLemmas.{comes_evenly}
use Rattle.core_steps.proofs.laws.due_once_a_round.Goals as goal

pub returns-clause-once : goal.returns-clause-once
returns-clause-once c = due_once

pub returns-clause-evenly : goal.returns-clause-evenly
returns-clause-evenly c = λ settings range. comes_evenly (setup_by settings)
