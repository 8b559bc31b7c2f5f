use Rattle.std.proofs.Common.{◌≡◌, take}
use Rattle.rate_cert.specs.Choice.{chosen_requests}
use Rattle.rate_cert.specs.Certificate.{places_of}
use Rattle.bounding_set.proofs.certificate.chosen.Given as goal

abbrev pub invariant-loop-entry : goal.invariant-loop-entry
invariant-loop-entry l = l.requests.items ≡ chosen_requests l.rows (places_of (take l.entry-index l.kept))
