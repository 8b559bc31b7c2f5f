use Rattle.std.proofs.Common.{ℕ, ◌<◌}
use Rattle.rate_cert.specs.Certificate.{ForbidsOnePairAt}
use Rattle.rate_cert.proofs.checker.first_forbidding_two.Given as goal

abbrev pub invariant-loop-place : goal.invariant-loop-place
invariant-loop-place l = (k : ℕ) → k < l.place → ForbidsOnePairAt l.requests l.kept k
