use Rattle.addresses.proofs.NetworkLemmas.{joined}
use Rattle.addresses.proofs.network.read_network.Goals as goal

pub returns-in-Some : goal.returns-in-Some
returns-in-Some c =
    joined c.network_in.result c.args.text.now c.in-Some.address.now c.in-Some.bits.now c.in-Some.ensures.2 c.in-Some.ensures.0 c.in-Some.ensures.1
    c.network_in.ensures
