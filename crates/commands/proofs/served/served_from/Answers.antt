use Rattle.commands.proofs.PlanLemmas.{of_places}
use Rattle.commands.proofs.served.served_from.Goals as goal

pub returns-in_ok-read_served-in-Ok : goal.returns-in_ok-read_served-in-Ok
returns-in_ok-read_served-in-Ok g c = of_places _ _ _ c.in_ok-read_served-in-Ok.ensures.ok
