use Rattle.std.proofs.Common.{◌∙◌, sym}
use Rattle.addresses.proofs.SeatingLemmas.{none_at}
use Rattle.addresses.proofs.seating.Seating.new.Goals as goal

pub invariant_of-result : goal.invariant_of-result
invariant_of-result c = record {
  unused = λ none. c.in_ok-places_in.ensures ∙ none_at 0 c.args.clients.now (sym c.is_used.ensures ∙ none);
}
