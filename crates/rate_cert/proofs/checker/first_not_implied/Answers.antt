use Rattle.std.proofs.Common.{below_more, arith}
use Rattle.rate_cert.specs.Certificate.{IsImpliedAt}
use Rattle.rate_cert.proofs.CheckerLemmas.{shown}
use Rattle.rate_cert.proofs.checker.first_not_implied.Goals as goal

pub loop-place-preserved : goal.loop-place-preserved
loop-place-preserved c =
    below_more (IsImpliedAt c.args.requests.now c.args.implied.now) c.loop-place.place c.loop-place.invariant
    (shown c.is_implied_at.result c.is_implied_at.ensures c.if-not-is_implied_at.false)

pub returns : goal.returns
returns c = λ i below. c.loop-place.invariant i (omega arith)
