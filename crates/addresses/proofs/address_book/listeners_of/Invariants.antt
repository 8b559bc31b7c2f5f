use Rattle.std.proofs.Common.{◌≡◌}
use Rattle.std.specs.Prelude.{map, take}
use Rattle.addresses.proofs.address_book.listeners_of.Given as goal

abbrev pub invariant-loop-client : goal.invariant-loop-client
invariant-loop-client l = l.receive_only.items ≡ map (λ client. client.receive_only) (take l.client-index l.clients)
