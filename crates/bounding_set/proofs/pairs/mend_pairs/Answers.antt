use Rattle.std.proofs.Common.{◌≡◌, ◌+◌, ◌-◌, length, take, drop, sym, ap, ◌∙◌, subst, arith}
use Rattle.bounding_set.specs.Certificate.{start_end, pairs_from}
use Rattle.bounding_set.specs.Kept.{pairs_of}
use Rattle.bounding_set.proofs.PairLemmas.{shared_in_range, as_many_before, mended_beginning, mended_end, length-pairs_from}
use Rattle.bounding_set.proofs.pairs.mend_pairs.Goals as goal

pub resize-requires-clause-in_range : goal.resize-requires-clause-in_range
resize-requires-clause-in_range c =
    let shared = c.shared_ends-low.result in
    shared_in_range c.args.kept.now.items c.args.before.now (shared.0 + shared.1) c.shared_ends-low.ensures.within_before c.requires.had

pub make_pairs-requires-clause-beginning : goal.make_pairs-requires-clause-beginning
make_pairs-requires-clause-beginning c =
    let low = c.shared_ends-low.result.0 in
    let all = pairs_from start_end c.args.announced.now in
    let shares = c.shared_ends-low.ensures in
    subst (λ ks. take low (pairs_of ks) ≡ take low all) (sym c.as_mut_slice.ensures.value)
    (mended_beginning c.args.kept.now.items c.resize.new.kept.items low all c.resize.ensures.beginning
    (λ some. ap (take low) (c.requires.had (omega (arith, some, shares.within_before))) ∙ shares.beginning some))

pub make_pairs-requires-clause-end : goal.make_pairs-requires-clause-end
make_pairs-requires-clause-end c =
    let behind = c.shared_ends-low.result.1 in
    let old = c.args.kept.now.items in
    let before = c.args.before.now in
    let n = length c.args.announced.now in
    let all = pairs_from start_end c.args.announced.now in
    let shares = c.shared_ends-low.ensures in
    subst (λ ks. drop (n - behind) (pairs_of ks) ≡ drop (n - behind) all) (sym c.as_mut_slice.ensures.value)
    (mended_end old c.resize.new.kept.items behind n all c.resize.ensures.len (length-pairs_from start_end c.args.announced.now) c.resize.ensures.end
    (λ some.
    let had = c.requires.had (omega (arith, some, shares.within_before)) in
    ap (λ k. drop (k - behind) (pairs_of old)) (as_many_before old before had)
    ∙ ap (drop (length before - behind)) had
    ∙ shares.end some))
