use Rattle.std.proofs.Common.{arith}
use Rattle.bounding_set.proofs.PairLemmas.{same_beginning, same_end}
use Rattle.bounding_set.proofs.pairs.shared_ends.Goals as goal

pub returns-then-announced-before-clause-beginning : goal.returns-then-announced-before-clause-beginning
returns-then-announced-before-clause-beginning c =
    let same = c.same_before.ensures in
    λ some. same_beginning c.args.before.now c.args.announced.now c.same_before.result c.saturating_sub-low.result
    (omega (arith, c.if-before-le2.false)) same.within_a same.within_b same.same (omega (arith, c.saturating_sub-low.ensures, some))

pub returns-clause-beginning : goal.returns-clause-beginning
returns-clause-beginning c =
    let same = c.same_before.ensures in
    λ some. same_beginning c.args.before.now c.args.announced.now c.same_before.result c.saturating_sub-low.result
    (omega (arith, c.if-before-le2.false)) same.within_a same.within_b same.same (omega (arith, c.saturating_sub-low.ensures, some))

pub returns-clause-end : goal.returns-clause-end
returns-clause-end c =
    let same = c.same_behind.ensures in
    λ some. same_end c.args.before.now c.args.announced.now c.same_behind.result c.saturating_sub-behind.result
    (omega (arith, c.if-before-le2.false)) (omega (arith, same.within, c.min.ensures)) (omega (arith, same.within, c.min.ensures)) same.same
    (omega (arith, c.saturating_sub-behind.ensures, some))
