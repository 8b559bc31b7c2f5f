use Rattle.std.proofs.Common.{◌+◌, ◌-◌, ◌≤◌, length, ◌∷◌, drop, ◌∙◌, arith}
use Rattle.bounding_set.proofs.PairLemmas.{take_before, drop_behind}
use Rattle.bounding_set.proofs.pairs.grow.Goals as goal

pub loop-count-preserved : goal.loop-count-preserved
loop-count-preserved c =
    let kept = c.loop-count.kept.items in
    let blank = c.default.result in
    let at = c.loop-count.count - c.args.behind in
    let is = c.loop-count.invariant in
    let within : at ≤ length kept = omega (arith, is.len) in
    record {
      len = omega (arith, c.insert.ensures.len, is.len);
      beginning =
          rw c.insert.ensures.items (take_before c.args.low at kept (blank ∷ drop at kept)
          (omega (arith, c.requires.in_range, c.len-count.ensures.value, c.loop-count.auto.count)) within
          ∙ is.beginning);
      end =
          rw c.insert.ensures.items (drop_behind at 1 (c.loop-count.count + 1 - c.args.behind) kept (blank ∷ drop at kept) within
          (omega (arith, c.requires.in_range, c.len-count.ensures.value, c.loop-count.auto.count))
          ∙ is.end);
    }
