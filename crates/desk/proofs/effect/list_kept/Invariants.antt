use Rattle.std.proofs.Common.{◌≡◌, take}
use Rattle.rate_cert.specs.Choice.{chosen_requests}
use Rattle.rate_cert.specs.Certificate.{places_of}
use Rattle.desk.proofs.effect.list_kept.Given as goal

abbrev pub invariant-loop-entry : goal.invariant-loop-entry
invariant-loop-entry l = l.set.items ≡ chosen_requests l.rows (places_of (take l.entry-index l.kept))
