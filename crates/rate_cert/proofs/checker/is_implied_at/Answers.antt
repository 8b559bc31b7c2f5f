use Rattle.std.proofs.lemmas.List.Elements.{AllWithin-more}
use Rattle.rate_cert.specs.Certificate.{IsImpliedIfAt}
use Rattle.rate_cert.proofs.CheckerLemmas.{shown, refuted, no_is, yes_all, holds_at}
use Rattle.rate_cert.proofs.checker.is_implied_at.Goals as goal

pub returns-then-not-is_implied_if_at : goal.returns-then-not-is_implied_if_at
returns-then-not-is_implied_if_at c = no_is (λ all.
    refuted c.is_implied_if_at.result c.is_implied_if_at.ensures c.if-not-is_implied_if_at.true (all c.loop-i.i-index _ c.loop-i-test.true))

pub loop-i-preserved : goal.loop-i-preserved
loop-i-preserved c =
    let at_place = IsImpliedIfAt c.args.requests.now c.args.place in
    AllWithin-more at_place c.args.implied.now 0 c.loop-i.i-index c.loop-i.invariant
    (holds_at at_place c.args.implied.now c.loop-i.i-index _ c.loop-i-test.true
    (shown c.is_implied_if_at.result c.is_implied_if_at.ensures c.if-not-is_implied_if_at.false))

pub returns : goal.returns
returns c =
    yes_all (IsImpliedIfAt c.args.requests.now c.args.place) c.args.implied.now c.loop-i.i-index c.loop-i-test.false c.loop-i.invariant
