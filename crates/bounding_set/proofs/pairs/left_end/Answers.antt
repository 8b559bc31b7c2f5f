use Rattle.std.proofs.Common.{◌≡◌, ◌-◌, drop, sym, ap, ◌∙◌, subst, arith}
use Rattle.std.specs.Prelude.{All}
use Rattle.std.proofs.lemmas.List.{take_rest}
use Rattle.bounding_set.specs.Announced.{Follows}
use Rattle.bounding_set.specs.Certificate.{right_end, pairs_from}
use Rattle.bounding_set.specs.Kept.{HasLeftEnd, end_of}
use Rattle.bounding_set.proofs.KeptLemmas.{HasLeftEnd-right}
use Rattle.bounding_set.proofs.PairLemmas.{follow_behind, pairs_from_place}
use Rattle.bounding_set.proofs.pairs.left_end.Goals as goal

pub right_of-requires : goal.right_of-requires
right_of-requires c =
    let xs = c.args.announced.now in
    let place = c.args.place in
    let x = c.index-announced-place.result in
    subst (All (Follows x)) (sym (take_rest xs place))
    (follow_behind xs (place - 1) place x c.requires.in_order (omega (arith, c.in_default)) (omega (arith, c.in_default, c.requires.in_range)) c.index-announced-place.is)

pub returns-in_default-clause-begins : goal.returns-in_default-clause-begins
returns-in_default-clause-begins c =
    let xs = c.args.announced.now in
    let place = c.args.place in
    let x = c.index-announced-place.result in
    let ends : end_of c.right_of.result ≡ right_end x (drop place xs) = c.right_of.ensures ∙ ap (right_end x) (take_rest xs place) in
    subst (λ e. HasLeftEnd e (drop place xs)) (sym ends)
    (HasLeftEnd-right x (drop place xs)
    (follow_behind xs (place - 1) place x c.requires.in_order (omega (arith, c.in_default)) (omega (arith, c.in_default, c.requires.in_range)) c.index-announced-place.is))

pub returns-in_default-clause-pairs : goal.returns-in_default-clause-pairs
returns-in_default-clause-pairs c =
    let xs = c.args.announced.now in
    let place = c.args.place in
    let x = c.index-announced-place.result in
    let ends : end_of c.right_of.result ≡ right_end x (drop place xs) = c.right_of.ensures ∙ ap (right_end x) (take_rest xs place) in
    ap (λ e. pairs_from e (drop place xs)) ends
    ∙ pairs_from_place xs (place - 1) place x (omega (arith, c.in_default)) (omega (arith, c.in_default, c.requires.in_range)) c.index-announced-place.is
