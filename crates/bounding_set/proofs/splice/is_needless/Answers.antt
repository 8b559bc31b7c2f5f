use Rattle.std.proofs.Common.{◌<◌, length, subst, arith}
use Rattle.std.proofs.lemmas.List.{get_or_read}
use Rattle.bounding_set.specs.Envelope.{IsNotAfter}
use Rattle.bounding_set.proofs.SpliceLemmas.{least_from_first, needed_from_first}
use Rattle.bounding_set.proofs.splice.is_needless.Goals as goal

pub returns-then-at-from-clause-least : goal.returns-then-at-from-clause-least
returns-then-at-from-clause-least c is =
    let lines = c.args.lines.now in
    let below : c.args.at < length lines = omega (arith, c.if-at-from.true, c.requires.place.in_range) in
    least_from_first lines c.args.x.now c.requires.hull.hull c.args.at c.args.from c.requires.place c.if-at-from.true
    (λ d. subst (λ l. IsNotAfter l c.args.x.now) (get_or_read lines c.args.at c.index-lines-at.result below c.index-lines-at.is d) (c.comes_first.ensures.first is))

pub returns-then-at-from-clause-needed : goal.returns-then-at-from-clause-needed
returns-then-at-from-clause-needed c is =
    let lines = c.args.lines.now in
    let below : c.args.at < length lines = omega (arith, c.if-at-from.true, c.requires.place.in_range) in
    needed_from_first lines c.args.x.now c.requires.hull.hull c.args.at c.args.from c.requires.place c.if-at-from.true
    (λ d. subst (IsNotAfter c.args.x.now) (get_or_read lines c.args.at c.index-lines-at.result below c.index-lines-at.is d) (c.comes_first.ensures.second is))
