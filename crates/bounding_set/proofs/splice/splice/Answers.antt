use Rattle.std.proofs.Common.{◌≡◌, ◌+◌, ◌<◌, ◌≤◌, ◌∷◌, take, drop, sym, ap, ◌∙◌, subst, length, arith, rules}
use Rattle.std.proofs.lemmas.List.{length-append, length-take, length-drop}
use Rattle.std.specs.Prelude.{All}
use Rattle.std.specs.List.{AllWithin}
use Rattle.bounding_set.specs.Envelope.{IsHull, Covers, KeepsLeastOwner}
use Rattle.bounding_set.specs.Place.{IsNeededAt, StandsFor}
use Rattle.bounding_set.proofs.SpliceLemmas.{place_from_counts, alone_untested}
use Rattle.bounding_set.proofs.StandsLemmas.{IsHull-replaced, Covers-x, Covers-replaced, least-replaced}
use Rattle.bounding_set.proofs.splice.splice.Goals as goal

pub needless_beside-low-requires-clause-place : goal.needless_beside-low-requires-clause-place
needless_beside-low-requires-clause-place c =
    let x = c.args.x.now in
    let at = c.lines_before-at in
    let from = c.lines_upto-from in
    let before = c.as_slice.ensures.value ∙ sym c.as_slice-4.ensures.value in
    let upto = c.as_slice-2.ensures.value ∙ sym c.as_slice-4.ensures.value in
    place_from_counts c.as_slice-4.result.now x at.result from.result
    (subst (λ ls. at.result ≤ length ls) before at.ensures.within)
    (subst (λ ls. from.result ≤ length ls) upto from.ensures.within)
    (subst (λ ls. AllWithin (λ l. l.tuple.overhead < x.tuple.overhead) ls 0 at.result) before at.ensures.before)
    (subst (λ ls. AllWithin (λ l. x.tuple.overhead ≤ l.tuple.overhead) ls at.result (length ls)) before at.ensures.behind)
    (subst (λ ls. AllWithin (λ l. l.tuple.overhead ≤ x.tuple.overhead) ls 0 from.result) upto from.ensures.before)
    (subst (λ ls. AllWithin (λ l. x.tuple.overhead < l.tuple.overhead) ls from.result (length ls)) upto from.ensures.behind)

stands : (c : goal.After-replace) → StandsFor c.args.lines.now.items c.args.x.now c.needless_beside-low.result.0 c.needless_beside-low.result.1
stands c =
    subst (λ ls. StandsFor ls c.args.x.now c.needless_beside-low.result.0 c.needless_beside-low.result.1) c.as_slice-4.ensures.value c.needless_beside-low.ensures.stands.stands

pub returns-clause-envelope : goal.returns-clause-envelope
returns-clause-envelope c =
    let old = c.args.lines.now.items in
    let x = c.args.x.now in
    let low = c.needless_beside-low.result.0 in
    let high = c.needless_beside-low.result.1 in
    let hull = c.requires.hull.hull in
    let needed : IsNeededAt c.as_slice-3.result.now x c.lines_before-at.result c.lines_upto-from.result = c.is_needless.ensures.needed c.if-is_needless.false in
    record {
      unchanged = search rules;
      spliced = search rules;
      hull = subst IsHull (sym c.replace.ensures) (IsHull-replaced old x hull low high (stands c));
      covers = subst (λ new. Covers new x) (sym c.replace.ensures) (Covers-x old x hull low high (stands c));
      covers_old = subst (λ new. All (Covers new) old) (sym c.replace.ensures) (Covers-replaced old x hull low high (stands c));
      least = subst (λ new. KeepsLeastOwner new x) (sym c.replace.ensures) (least-replaced old x hull low high (stands c));
      least_new = λ _. (subst (λ ls. IsNeededAt ls x c.lines_before-at.result c.lines_upto-from.result) c.as_slice-3.ensures.value needed).new;
    }

-- how many lines there are then
long : (c : goal.After-replace) → length c.replace.new.lines.items + c.needless_beside-low.result.1 ≡ c.needless_beside-low.result.0 + length c.args.lines.now.items + 1
long c =
    let old = c.args.lines.now.items in
    let low = c.needless_beside-low.result.0 in
    let high = c.needless_beside-low.result.1 in
    let x = c.args.x.now in
    omega (
      arith,
      ap length c.replace.ensures,
      length-append (take low old) (x ∷ drop high old),
      length-take low old,
      length-drop high old,
      (stands c).rising,
      (stands c).in_range,
    )

pub returns-clause-tests : goal.returns-clause-tests
returns-clause-tests c =
    let beside = c.needless_beside-low.ensures in
    let same : length c.as_slice-4.result.now ≡ length c.args.lines.now.items = ap length c.as_slice-4.ensures.value in
    record {
      counted = search rules;
      few = search rules;
      bounded = search rules;
      one_more = omega (arith, long c, (stands c).rising);
      untested = λ none more. alone_untested (length c.replace.new.lines.items) c.needless_beside-low.result.0 c.needless_beside-low.result.1
          (length c.args.lines.now.items) c.lines_before-at.result c.lines_upto-from.result (length c.as_slice-4.result.now) c.args.count.now
          c.is_needless.new.count c.needless_beside-low.new.count (long c) beside.stands.before beside.stands.behind same (stands c).in_range
          c.is_needless.ensures.counted beside.tests.asked_before beside.tests.asked_behind none;
    }
