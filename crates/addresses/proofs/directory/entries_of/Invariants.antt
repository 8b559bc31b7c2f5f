use Rattle.std.proofs.Common.{◌≡◌}
use Rattle.std.specs.Prelude.{map, take}
use Rattle.addresses.specs.Places.{fixed_at, fixed_in}
use Rattle.addresses.proofs.directory.entries_of.Given as goal

abbrev pub invariant-loop-client : goal.invariant-loop-client
invariant-loop-client l = map fixed_in l.entries.items ≡ map fixed_at (take l.client-index l.clients)
