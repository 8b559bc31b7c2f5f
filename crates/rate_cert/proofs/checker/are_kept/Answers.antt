use Rattle.std.proofs.lemmas.List.Elements.{AllWithin-more}
use Rattle.rate_cert.specs.Certificate.{HasNeighbours}
use Rattle.rate_cert.proofs.CheckerLemmas.{shown, refuted, no_is, yes_all, holds_at}
use Rattle.rate_cert.proofs.checker.are_kept.Goals as goal

pub returns-then-not-has_both : goal.returns-then-not-has_both
returns-then-not-has_both c = no_is (λ all.
    refuted c.has_both.result c.has_both.ensures c.if-not-has_both.true (all c.loop-i.i-index _ c.loop-i-test.true))

pub loop-i-preserved : goal.loop-i-preserved
loop-i-preserved c =
    let has = HasNeighbours c.args.places.now in
    AllWithin-more has c.args.implied.now 0 c.loop-i.i-index c.loop-i.invariant
    (holds_at has c.args.implied.now c.loop-i.i-index _ c.loop-i-test.true
    (shown c.has_both.result c.has_both.ensures c.if-not-has_both.false))

pub returns : goal.returns
returns c = yes_all (HasNeighbours c.args.places.now) c.args.implied.now c.loop-i.i-index c.loop-i-test.false c.loop-i.invariant
