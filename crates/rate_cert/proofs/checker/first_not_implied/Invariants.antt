use Rattle.std.proofs.Common.{ℕ, ◌<◌}
use Rattle.rate_cert.specs.Certificate.{IsImpliedAt}
use Rattle.rate_cert.proofs.checker.first_not_implied.Given as goal

abbrev pub invariant-loop-place : goal.invariant-loop-place
invariant-loop-place l = (k : ℕ) → k < l.place → IsImpliedAt l.requests l.implied k
