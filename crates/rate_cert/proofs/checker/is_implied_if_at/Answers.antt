use Rattle.std.proofs.Common.{arith}
use Rattle.rate_cert.proofs.checker.is_implied_if_at.Goals as goal

pub returns-else-from-place : goal.returns-else-from-place
returns-else-from-place c = (
  λ is _. c.is_implied.ensures.0 is,
  λ implied. c.is_implied.ensures.1 (implied (omega arith)),
)
