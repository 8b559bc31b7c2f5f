use Rattle.std.proofs.Common.{sym, ◌∙◌, arith}
use Rattle.rate_cert.proofs.RequestLemmas.{Decides-request_eq}
use Rattle.bounding_set.proofs.PairLemmas.{one_more_behind}
use Rattle.bounding_set.proofs.pairs.same_behind.Goals as goal

pub loop-count-preserved : goal.loop-count-preserved
loop-count-preserved c =
    let x = c.index-a-a.result in
    let y = c.index-b-b.result in
    let same = (Decides-request_eq x y).0 (sym c.eq.ensures ∙ c.if-eq.true) in
    record {
      within = omega (arith, c.loop-count-test.true);
      same =
          one_more_behind c.args.a.now c.args.b.now c.loop-count.count x y
          (omega (arith, c.loop-count-test.true, c.requires.within_a)) (omega (arith, c.loop-count-test.true, c.requires.within_b))
          c.index-a-a.is c.index-b-b.is same c.loop-count.invariant.same;
    }
