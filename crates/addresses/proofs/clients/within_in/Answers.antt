use Rattle.addresses.proofs.ClientLemmas.{no_bound}
use Rattle.addresses.proofs.clients.within_in.Goals as goal

pub returns-in-None-read_network : goal.returns-in-None-read_network
returns-in-None-read_network c = no_bound c.args.listen c.args.text.now c.in-Some.text c.as_str.result.now c.in-Some.is c.as_str.ensures.value c.in-None-read_network.ensures
