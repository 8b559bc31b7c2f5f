use Rattle.std.proofs.Common.{◌≡◌}
use Rattle.std.specs.Prelude.{map, take}
use Rattle.addresses.specs.Places.{is_learned_sign, learns_at}
use Rattle.addresses.proofs.directory.signs_of.Given as goal

abbrev pub invariant-loop-number : goal.invariant-loop-number
invariant-loop-number l = map is_learned_sign l.signs.items ≡ map learns_at (take l.number l.clients)
