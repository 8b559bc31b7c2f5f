use Rattle.addresses.proofs.AddressBookLemmas.{origins_passed}
use Rattle.addresses.proofs.address_book.origins_of.Goals as goal

pub loop-number-preserved : goal.loop-number-preserved
loop-number-preserved c =
    origins_passed c.args.sources.now c.args.clients.now c.args.learners.now c.loop-number.number _ c.loop-number.origins.items c.push_origins.new.origins.items
    c.endpoint_at-endpoint.result c.source_at.result c.learner.result c.places_of-places.result c.endpoint_at-endpoint.ensures c.source_at.ensures c.learner.ensures
    c.places_of-places.ensures c.in_ok-push_origins.ensures c.loop-number-test.true c.loop-number.invariant
