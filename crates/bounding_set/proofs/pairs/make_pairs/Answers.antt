use Rattle.std.proofs.Common.{◌≡◌, ◌+◌, ◌<◌, ◌∙◌, length, get_or, drop, sym, ap, subst, arith}
use Rattle.std.specs.Prelude.{All}
use Rattle.std.proofs.lemmas.List.{take_rest, length-set}
use Rattle.tmmbr_tuple.specs.RatePair.{pair_of}
use Rattle.rate_cert.specs.declared.certificate.Kept.{Kept}
use Rattle.bounding_set.specs.Announced.{Follows}
use Rattle.bounding_set.specs.Certificate.{start_end, right_end, pair_between, pairs_from}
use Rattle.bounding_set.specs.Kept.{HasLeftEnd, IsEndOf, end_of, pairs_of}
use Rattle.bounding_set.proofs.KeptLemmas.{HasLeftEnd-right, IsEndOf-right_end}
use Rattle.bounding_set.proofs.PairLemmas.{follow_behind, pairs_from_place, pair_at, length-pairs_from, one_more_pair, pairs_behind_same, same_parts}
use Rattle.bounding_set.proofs.pairs.make_pairs.Goals as goal

pub right_of-right-requires : goal.right_of-right-requires
right_of-right-requires c =
    let xs = c.args.announced.now in
    let at = c.loop-place.place in
    let x = c.index-announced-place.result in
    subst (All (Follows x)) (sym (take_rest xs (at + 1)))
    (follow_behind xs at (at + 1) x c.requires.in_order (omega arith) (omega (arith, c.loop-place-test.true, c.requires.in_range)) c.index-announced-place.is)

pub pair_to-requires-clause-right : goal.pair_to-requires-clause-right
pair_to-requires-clause-right c =
    let xs = c.args.announced.now in
    let at = c.loop-place.place in
    let x = c.index-announced-place.result in
    let ends : end_of c.right_of-right.result ≡ right_end x (drop (at + 1) xs) = c.right_of-right.ensures ∙ ap (right_end x) (take_rest xs (at + 1)) in
    subst (IsEndOf x) (sym ends)
    (IsEndOf-right_end x (drop (at + 1) xs)
    (follow_behind xs at (at + 1) x c.requires.in_order (omega arith) (omega (arith, c.loop-place-test.true, c.requires.in_range)) c.index-announced-place.is))

pub loop-place-preserved : goal.loop-place-preserved
loop-place-preserved c =
    let xs = c.args.announced.now in
    let kept = c.loop-place.kept in
    let at = c.loop-place.place in
    let x = c.index-announced-place.result in
    let was = c.index-kept-place.result in
    let k : Kept = record { place = (get_or kept at was).place; pair = c.pair_to.result } in
    let is = c.loop-place.invariant in
    let left = end_of c.loop-place.left in
    let all = pairs_from start_end xs in
    let behind = drop (at + 1) xs in
    let here : at < length xs = omega (arith, c.loop-place-test.true, c.requires.in_range) in
    let ends : end_of c.right_of-right.result ≡ right_end x behind = c.right_of-right.ensures ∙ ap (right_end x) (take_rest xs (at + 1)) in
    let follow = follow_behind xs at (at + 1) x c.requires.in_order (omega arith) here c.index-announced-place.is in
    let made : pair_of k.pair ≡ get_or all at (pair_of k.pair) =
    c.pair_to.ensures
    ∙ ap (pair_between x left) ends
    ∙ sym (pair_at xs left at (at + 1) x (pair_of k.pair) (omega arith) here c.index-announced-place.is is.rest) in
    record {
      as_many = omega (arith, length-set kept at k, is.as_many);
      done =
          one_more_pair kept k at all (omega (arith, here, is.as_many)) (omega (arith, is.as_many, length-pairs_from start_end xs)) is.done made;
      end = pairs_behind_same kept k at c.args.high c.loop-place-test.true ∙ is.end;
      begins = subst (λ e. HasLeftEnd e behind) (sym ends) (HasLeftEnd-right x behind follow);
      rest =
          ap (λ e. pairs_from e behind) ends
          ∙ pairs_from_place xs at (at + 1) x (omega arith) here c.index-announced-place.is;
    }

pub returns-clause-pairs : goal.returns-clause-pairs
returns-clause-pairs c =
    let is = c.loop-place.invariant in
    same_parts (pairs_of c.loop-place.kept) (pairs_from start_end c.args.announced.now) c.loop-place.place c.args.high
    (omega (arith, c.requires.rising, c.loop-place.auto.place, c.loop-place-test.false)) is.done is.end
