use Rattle.std.proofs.Common.{◌≡◌, map, take}
use Rattle.addresses.specs.Listeners.{standing_at_first}
use Rattle.addresses.proofs.listeners.Listeners.new.Given as goal

abbrev pub invariant-loop-only_listens : goal.invariant-loop-only_listens
invariant-loop-only_listens l = l.standings.items ≡ map standing_at_first (take l.only_listens-index l.receive_only)
