use Rattle.std.specs.contracts.net.socket_addr.SocketAddrPartialEq.TheImpl.{eq-value}
use Rattle.addresses.proofs.ClientLemmas.{Left}
use Rattle.addresses.proofs.clients.read_clients.Given as goal

abbrev pub invariant-loop-text : goal.invariant-loop-text
invariant-loop-text l = Left eq-value.it l.listen l.texts l.text-index l.clients.items
