use Rattle.desk.proofs.ScheduleLemmas.{schedule_law, greatest_law}
use Rattle.desk.proofs.laws.plis_on_schedule.Goals as goal

pub returns-clause-schedule : goal.returns-clause-schedule
returns-clause-schedule c = schedule_law

pub returns-clause-greatest : goal.returns-clause-greatest
returns-clause-greatest c = greatest_law
