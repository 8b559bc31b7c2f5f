use Rattle.addresses.proofs.AddressBookLemmas.{OriginsLeft}
use Rattle.addresses.proofs.address_book.origins_of.Given as goal

abbrev pub invariant-loop-number : goal.invariant-loop-number
invariant-loop-number l = OriginsLeft l.sources l.clients l.learners l.number l.origins.items
