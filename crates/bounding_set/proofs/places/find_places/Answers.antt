use Rattle.std.proofs.Common.{◌<◌, ◌∙◌, refl, inl, inr, sym, ap, subst, length, get_or, set, arith}
use Rattle.std.specs.Prelude.{Contains}
use Rattle.std.proofs.Math.Seq.{map-set_same}
use Rattle.std.proofs.lemmas.Bool.{cases_eq}
use Rattle.std.proofs.lemmas.List.{length-set, get_or-set_same, get_or-set_other, get_or_read}
use Rattle.tmmbr_tuple.specs.RatePair.{pair_of}
use Rattle.rate_cert.specs.declared.certificate.Kept.{Kept}
use Rattle.bounding_set.specs.Kept.{StandsAt}
use Rattle.bounding_set.proofs.KeptLemmas.{KeepsRequests-each}
use Rattle.bounding_set.proofs.places.find_places.Goals as goal

pub place_near-requires-clause-live : goal.place_near-requires-clause-live
place_near-requires-clause-live c =
    let x = c.index-announced-at.result in
    subst (Contains c.args.rows.now) (sym c.index-announced-at.is) (c.requires.are_rows c.loop-at.at x c.loop-at-test.true)

pub loop-at-preserved : goal.loop-at-preserved
loop-at-preserved c =
    let rows = c.args.rows.now in
    let announced = c.args.announced.now in
    let kept = c.loop-at.kept in
    let at = c.loop-at.at in
    let x = c.index-announced-at.result in
    let was = c.index-kept-at-in-loop-at.result in
    let k : Kept = record { place = c.place_near.result; pair = (get_or kept at was).pair } in
    let is = c.loop-at.invariant in
    let below : at < length kept = omega (arith, c.loop-at-test.true, is.as_many) in
    record {
      as_many = omega (arith, length-set kept at k, is.as_many);
      pairs = map-set_same (λ (e : Kept). pair_of e.pair) kept at k was refl ∙ is.pairs;
      stand = λ i d e before.
          elim (cases_eq i at) [
            | inl same ↦
                subst (λ j. StandsAt rows (get_or announced j d) (get_or (set kept at k) j e).place) (sym same)
                (subst (StandsAt rows (get_or announced at d)) (sym (ap (λ (q : Kept). q.place) (get_or-set_same kept at k e below)))
                (subst (λ r. StandsAt rows r k.place) (get_or_read announced at x c.loop-at-test.true c.index-announced-at.is d) c.place_near.ensures))
            | inr other ↦
                subst (λ (q : Kept). StandsAt rows (get_or announced i d) q.place) (sym (get_or-set_other kept at i k e other))
                (is.stand i d e (omega (arith, before, other)))
          ];
    }

pub returns-clause-requests : goal.returns-clause-requests
returns-clause-requests c =
    KeepsRequests-each c.args.rows.now c.args.announced.now c.loop-at.kept c.loop-at.invariant.as_many
    (λ i d e below. c.loop-at.invariant.stand i d e (omega (arith, below, c.loop-at-test.false, c.loop-at.invariant.as_many)))
