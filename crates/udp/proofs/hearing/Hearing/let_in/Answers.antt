use Rattle.std.proofs.Common.{refl}
use Rattle.udp.proofs.PolicyLemmas.{lets_anew}
use Rattle.udp.proofs.hearing.Hearing.let_in.Goals as goal

pub returns-in-Anew-clause-lets : goal.returns-in-Anew-clause-lets
returns-in-Anew-clause-lets c =
    let says = c.say_goodbye.ensures in
    let held = c.hold-in-Anew.ensures in
    lets_anew _ _ _ _ _ _ _ _ _ _ _ c.in-Anew.is refl says.same says.says held.holds held.same held.stays.1 held.stays.2 held.stays.3
