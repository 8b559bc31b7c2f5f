use Rattle.addresses.proofs.SeatingLemmas.{PlacesLeft}
use Rattle.addresses.proofs.seat_places.places_in.Given as goal

abbrev pub invariant-loop-number : goal.invariant-loop-number
invariant-loop-number l = PlacesLeft l.clients l.number l.places
