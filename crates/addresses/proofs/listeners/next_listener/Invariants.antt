use Rattle.std.proofs.Common.{◌≡◌, drop}
use Rattle.addresses.specs.Listeners.{next_listener}
use Rattle.addresses.proofs.listeners.next_listener.Given as goal

abbrev pub invariant-loop-number : goal.invariant-loop-number
invariant-loop-number l = next_listener l.from l.number (drop l.number l.standings) ≡ next_listener l.from 0 l.standings
