use Rattle.std.specs.contracts.net.socket_addr.SocketAddrPartialEq.TheImpl.{eq-value}
use Rattle.addresses.proofs.ClientLemmas.{spells_rtcp}
use Rattle.addresses.proofs.clients.rtcp_address_in.Goals as goal

pub returns-in-Some : goal.returns-in-Some
returns-in-Some c = spells_rtcp eq-value.it c.args.listen c.args.address c.args.text.now c.reachable_in.result c.in-Some.field-0 c.in-Some.is c.reachable_in.ensures
