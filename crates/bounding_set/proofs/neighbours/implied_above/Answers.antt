use Rattle.std.proofs.Common.{◌+◌, ◌-◌, ◌≤◌, length, get_or, arith}
use Rattle.std.proofs.lemmas.List.{get_or_default}
use Rattle.bounding_set.proofs.NeighbourLemmas.{past_is, between_is, one_at_least}
use Rattle.bounding_set.proofs.neighbours.implied_above.Goals as goal

pub overflow_sub-a : goal.overflow_sub-a
overflow_sub-a c = one_at_least c.args.announced.now c.args.overhead c.count_upto-next.result c.requires.some c.requires.above c.count_upto-next.ensures.above

pub overflow_sub-below : goal.overflow_sub-below
overflow_sub-below c = one_at_least c.args.announced.now c.args.overhead c.count_upto-next.result c.requires.some c.requires.above c.count_upto-next.ensures.above

pub returns-then-next-kept : goal.returns-then-next-kept
returns-then-next-kept c =
    let announced = c.args.announced.now in
    let kept = c.args.kept.now in
    let next = c.count_upto-next.result in
    let counts = c.count_upto-next.ensures in
    let some : 1 ≤ next = one_at_least announced c.args.overhead next c.requires.some c.requires.above counts.above in
    let a = get_or kept (next - 1) c.index-kept-next.result in
    let x = get_or announced (next - 1) c.index-announced-next.result in
    λ first behind lists. past_is announced kept c.args.place c.args.overhead first behind lists c.requires.as_many next (next - 1) (omega arith)
    counts.within counts.upto a x
    (get_or_default kept (next - 1) c.index-kept-next.result a (omega (arith, counts.within, c.requires.as_many)))
    (get_or_default announced (next - 1) c.index-announced-next.result x (omega (arith, counts.within)))
    c.if-next-kept.true

pub returns : goal.returns
returns c =
    let announced = c.args.announced.now in
    let kept = c.args.kept.now in
    let next = c.count_upto-next.result in
    let counts = c.count_upto-next.ensures in
    let some : 1 ≤ next = one_at_least announced c.args.overhead next c.requires.some c.requires.above counts.above in
    let a = get_or kept (next - 1) c.index-kept-next.result in
    let x = get_or announced (next - 1) c.index-announced-next.result in
    let b = get_or kept next c.index-kept-next-2.result in
    let y = get_or announced next c.index-announced-next-2.result in
    let inner : next + 1 ≤ length kept = omega (arith, counts.within, c.requires.as_many, c.if-next-kept.false) in
    λ first behind lists. between_is announced kept c.args.place c.args.overhead first behind lists c.requires.as_many next (next - 1) (omega arith)
    counts.within counts.upto a x
    (get_or_default kept (next - 1) c.index-kept-next.result a (omega (arith, counts.within, c.requires.as_many)))
    (get_or_default announced (next - 1) c.index-announced-next.result x (omega (arith, counts.within)))
    b y
    (get_or_default kept next c.index-kept-next-2.result b (omega (arith, inner)))
    (get_or_default announced next c.index-announced-next-2.result y (omega (arith, inner, c.requires.as_many)))
    (omega (arith, inner)) counts.above
