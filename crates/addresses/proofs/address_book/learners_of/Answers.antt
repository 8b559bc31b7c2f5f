use Rattle.addresses.proofs.AddressBookLemmas.{client_passed}
use Rattle.addresses.proofs.address_book.learners_of.Goals as goal

pub loop-number-preserved : goal.loop-number-preserved
loop-number-preserved c =
    client_passed c.args.sources.now c.args.clients.now c.args.timeout_ms c.loop-number.number _ c.loop-number.learners c.push_client.new.learners
    c.endpoint_at.result c.source_at-source.result c.endpoint_at.ensures c.source_at-source.ensures c.in_ok-push_client.ensures c.loop-number-test.true
    c.loop-number.invariant
