use Rattle.std.proofs.Common.{◌<◌, length, get_or, arith}
use Rattle.std.proofs.lemmas.Bool.Decides.{nat_tests}
use Rattle.std.proofs.lemmas.List.{get_or_default}
use Rattle.bounding_set.proofs.NeighbourLemmas.{by_first, by_others}
use Rattle.bounding_set.proofs.neighbours.implied_by.Goals as goal

pub returns-then-overhead-announced : goal.returns-then-overhead-announced
returns-then-overhead-announced c =
    let kept = c.args.kept.now in
    let some : 0 < length kept = grind (arith, nat_tests, c.is_empty.ensures, c.if-is_empty.false) in
    let k = get_or kept 0 c.index-kept-0.result in
    let r = get_or c.args.announced.now 0 c.index-announced-0.result in
    λ listed lists. by_first c.args.announced.now kept c.args.place c.args.overhead listed lists k r some
    (get_or_default kept 0 c.index-kept-0.result k some)
    (get_or_default c.args.announced.now 0 c.index-announced-0.result r (omega (arith, some, c.requires.as_many))) (omega (arith, c.if-overhead-announced.true))

pub returns : goal.returns
returns c =
    let kept = c.args.kept.now in
    let some : 0 < length kept = grind (arith, nat_tests, c.is_empty.ensures, c.if-is_empty.false) in
    let r = get_or c.args.announced.now 0 c.index-announced-0.result in
    λ listed lists. by_others c.args.announced.now kept c.args.place c.args.overhead listed lists c.implied_above.result c.implied_above.ensures
    c.index-kept-0.result r some
    (get_or_default c.args.announced.now 0 c.index-announced-0.result r (omega (arith, some, c.requires.as_many))) (omega (arith, c.if-overhead-announced.false))
