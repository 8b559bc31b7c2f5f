use Rattle.std.proofs.Common.{ℕ, ◌<◌, get_or}
use Rattle.tmmbr_tuple.specs.RatePair.{Forbids, Permits, pair_of}
use Rattle.rate_cert.specs.declared.certificate.Kept.{Kept}
use Rattle.rate_cert.proofs.checker.forbids_one_pair.Given as goal

abbrev pub invariant-loop-k : goal.invariant-loop-k
invariant-loop-k l = (j k : ℕ) (d : Kept) → j < k → k < l.k → Forbids l.request.tuple (pair_of (get_or l.kept j d).pair)
    → ¬ Forbids l.request.tuple (pair_of (get_or l.kept k d).pair)

abbrev pub invariant-loop-j : goal.invariant-loop-j
invariant-loop-j l = (j : ℕ) (d : Kept) → j < l.j → Permits l.request.tuple (pair_of (get_or l.kept j d).pair)
