use Rattle.std.proofs.Common.{◌≡◌, map, take}
use Rattle.addresses.specs.Clients.{client_at}
use Rattle.serving.proofs.serve.clients_at.Given as goal

abbrev pub invariant-loop-address : goal.invariant-loop-address
invariant-loop-address l = l.clients.items ≡ map client_at (take l.address-index l.addresses)
