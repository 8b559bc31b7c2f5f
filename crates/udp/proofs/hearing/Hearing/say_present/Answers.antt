use Rattle.udp.proofs.PolicyLemmas.{present_held, still_spoken}
use Rattle.udp.proofs.hearing.Hearing.say_present.Goals as goal

pub returns-clause-says : goal.returns-clause-says
returns-clause-says c = still_spoken _ _ _ _ _ _ _ c.hold.ensures.holds c.say_present.ensures.says

pub returns-clause-holds : goal.returns-clause-holds
returns-clause-holds c = present_held _ _ _ _ _ _ _ c.say_present.ensures.sent c.say_present.ensures.says c.hold.ensures.holds
