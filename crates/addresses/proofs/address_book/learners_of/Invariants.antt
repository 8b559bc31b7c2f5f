use Rattle.addresses.proofs.AddressBookLemmas.{ClientsLeft}
use Rattle.addresses.proofs.address_book.learners_of.Given as goal

abbrev pub invariant-loop-number : goal.invariant-loop-number
invariant-loop-number l = ClientsLeft l.sources l.clients l.timeout_ms l.number l.learners
