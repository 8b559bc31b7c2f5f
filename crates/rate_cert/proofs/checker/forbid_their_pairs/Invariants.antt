use Rattle.std.proofs.Common.{ℕ, ◌<◌, get_or}
use Rattle.rate_cert.specs.declared.certificate.Kept.{Kept}
use Rattle.rate_cert.specs.Certificate.{ForbidsItsPair}
use Rattle.rate_cert.proofs.checker.forbid_their_pairs.Given as goal

abbrev pub invariant-loop-k : goal.invariant-loop-k
invariant-loop-k l = (k : ℕ) (d : Kept) → k < l.k-index → ForbidsItsPair l.requests (get_or l.kept k d)
