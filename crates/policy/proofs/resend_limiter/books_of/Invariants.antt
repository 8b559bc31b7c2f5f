use Rattle.std.proofs.Common.{◌≡◌}
use Rattle.std.specs.Prelude.{replicate}
use Rattle.policy.specs.ResendLimiter.{empty_book}
use Rattle.policy.proofs.resend_limiter.books_of.Given as goal

abbrev pub invariant-loop-leg : goal.invariant-loop-leg
invariant-loop-leg l = l.books.items ≡ replicate l._leg (empty_book l.remembered)
