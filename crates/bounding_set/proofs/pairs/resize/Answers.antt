use Rattle.std.proofs.Common.{◌≡◌, ◌+◌, ◌-◌, length, drop, ap, ◌∙◌, arith}
use Rattle.bounding_set.proofs.PairLemmas.{drop_after_range}
use Rattle.bounding_set.proofs.pairs.resize.Goals as goal

pub returns-then-len-clause-end : goal.returns-then-len-clause-end
returns-then-len-clause-end c =
    let old = c.args.kept.now.items in
    let low = c.args.low in
    let at = c.args.len - c.args.behind in
    let high = low + (c.len-then-len.result - c.args.len) in
    let many = c.len-then-len.ensures.value in
    let moved : at + (high - low) ≡ length old - c.args.behind = omega (arith, c.requires.room, c.if-len.true, c.len.ensures.value, many) in
    ap (drop at) c.cut.ensures
    ∙ drop_after_range low high at old (omega arith) (omega (arith, c.requires.room, c.requires.in_range, many)) (omega (arith, c.requires.room))
    ∙ ap (λ k. drop k old) moved
