use Rattle.addresses.proofs.SeatingLemmas.{places_passed}
use Rattle.addresses.proofs.seat_places.places_in.Goals as goal

pub loop-number-preserved : goal.loop-number-preserved
loop-number-preserved c =
    places_passed c.args.clients.now c.loop-number.number _ c.loop-number.places c.push_places.new.places
    c.endpoint_at.result c.endpoint_at.ensures c.in_ok-push_places.ensures c.loop-number-test.true c.loop-number.invariant
