use Rattle.rate_cert.proofs.CheckerLemmas.{shown, no_is, kept_in_range, implied_in_range}
use Rattle.rate_cert.proofs.checker.check_entries.Goals as goal

pub forbid_their_pairs-requires : goal.forbid_their_pairs-requires
forbid_their_pairs-requires c =
    kept_in_range _ _ _ (shown c.has_places.result c.has_places.ensures c.if-not-has_places.false)

pub first_not_implied-requires : goal.first_not_implied-requires
first_not_implied-requires c =
    implied_in_range _ _ _ (shown c.has_places.result c.has_places.ensures c.if-not-has_places.false)

pub returns-in-Some-first_not_implied-clause-certified : goal.returns-in-Some-first_not_implied-clause-certified
returns-in-Some-first_not_implied-clause-certified c =
    let first = c.in-Some-first_not_implied.ensures in
    no_is (λ meets. first.fails (meets.implications c.in-Some-first_not_implied.place first.in_range))
