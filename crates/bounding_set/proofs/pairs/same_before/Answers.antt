use Rattle.std.proofs.Common.{◌<◌, length, sym, ◌∙◌, arith}
use Rattle.std.proofs.lemmas.List.{get_or_read, take_more_same}
use Rattle.rate_cert.proofs.RequestLemmas.{Decides-request_eq}
use Rattle.bounding_set.proofs.pairs.same_before.Goals as goal

pub loop-count-preserved : goal.loop-count-preserved
loop-count-preserved c =
    let a = c.args.a.now in
    let b = c.args.b.now in
    let at = c.loop-count.count in
    let x = c.index-a-count.result in
    let y = c.index-b-count.result in
    let in_a : at < length a = omega (arith, c.loop-count-test.true, c.min-most.ensures) in
    let in_b : at < length b = omega (arith, c.loop-count-test.true, c.min-most.ensures) in
    let same = (Decides-request_eq x y).0 (sym c.eq.ensures ∙ c.if-eq.true) in
    record {
      within_a = omega (arith, in_a);
      within_b = omega (arith, in_b);
      same =
          take_more_same a b at x in_a in_b c.loop-count.invariant.same
          (sym (get_or_read a at x in_a c.index-a-count.is x) ∙ same ∙ get_or_read b at y in_b c.index-b-count.is x);
    }
