use Rattle.std.proofs.Common.{rules, ◌≡◌, ◌-◌, ◌<◌, length, get_or, subst, arith}
use Rattle.std.specs.Prelude.{min}
use Rattle.std.proofs.lemmas.List.{get_or_default}
use Rattle.rate_cert.proofs.CheckerLemmas.{refuted}
use Rattle.bounding_set.proofs.ImpliesLemmas.{at_any_time}
use Rattle.bounding_set.proofs.SpliceLemmas.{needed_in_none, needed_from_test}
use Rattle.bounding_set.proofs.splice.is_implied.Goals as goal

pub returns-then-is_empty-clause-needed : goal.returns-then-is_empty-clause-needed
returns-then-is_empty-clause-needed c is =
    needed_in_none c.args.lines.now c.args.x.now c.requires.hull.hull c.args.at c.requires.place (search rules)

pub returns-clause-needed : goal.returns-clause-needed
returns-clause-needed c is =
    let lines = c.args.lines.now in
    let some : 0 < length lines = grind arith in
    let before : c.saturating_sub.result ≡ c.args.at - 1 = search rules in
    let behind : c.min.result ≡ min c.args.at (length lines - 1) = search rules in
    let a = get_or lines c.saturating_sub.result c.index-lines-saturating_sub.result in
    let b = get_or lines c.min.result c.index-lines-min.result in
    needed_from_test lines c.args.x.now c.requires.hull.hull c.args.at c.requires.place c.requires.hull.all_send some a b
    (λ d. subst (λ n. a ≡ get_or lines n d) before (get_or_default lines c.saturating_sub.result c.index-lines-saturating_sub.result d (omega arith)))
    (λ d. subst (λ n. b ≡ get_or lines n d) behind (get_or_default lines c.min.result c.index-lines-min.result d (omega arith)))
    (refuted c.implies.result c.implies.ensures.exact is)

pub returns-clause-covered : goal.returns-clause-covered
returns-clause-covered c =
    let lines = c.args.lines.now in
    let some : 0 < length lines = grind arith in
    let before : c.saturating_sub.result ≡ c.args.at - 1 = search rules in
    let behind : c.min.result ≡ min c.args.at (length lines - 1) = search rules in
    let in_before : c.saturating_sub.result < length lines = omega (arith, before, some, c.requires.place.in_range) in
    let in_behind : c.min.result < length lines = omega (arith, behind, some) in
    let a = get_or lines c.saturating_sub.result c.index-lines-saturating_sub.result in
    let b = get_or lines c.min.result c.index-lines-min.result in
    λ is p feasible. at_any_time a.tuple b.tuple c.args.x.now.tuple (c.implies.ensures.exact.0 is) p
    (feasible c.saturating_sub.result c.index-lines-saturating_sub.result in_before) (feasible c.min.result c.index-lines-min.result in_behind)
