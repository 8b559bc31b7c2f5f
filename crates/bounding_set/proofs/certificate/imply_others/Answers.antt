use Rattle.std.proofs.Common.{◌==◌, true, false, ◌≡◌, ◌∙◌, sym, ap, subst, length, [], ◌∷◌, get_or, map, ℕ, arith}
use Rattle.std.specs.List.{list_any}
use Rattle.std.proofs.lemmas.List.{get_or_read, length-append}
use Rattle.rate_cert.specs.declared.request.Request.{Request}
use Rattle.rate_cert.specs.declared.certificate.Implied.{Implied}
use Rattle.rate_cert.specs.declared.certificate.Kept.{Kept}
use Rattle.rate_cert.specs.Certificate.{places_of}
use Rattle.bounding_set.specs.Certificate.{implied_by, dropped_places}
use Rattle.bounding_set.specs.Kept.{listed_of}
use Rattle.bounding_set.proofs.KeptLemmas.{as_many_requests}
use Rattle.bounding_set.proofs.ImpliedLemmas.{any_place, entries_more, entries_same}
use Rattle.bounding_set.proofs.NeighbourLemmas.{Lists-listed_of}
use Rattle.bounding_set.proofs.certificate.imply_others.Goals as goal
use Rattle.bounding_set.proofs.certificate.imply_others.Goals.{then-not-marks-place, else-not-marks-place}

pub returns : goal.returns
returns c =
    let rows = c.args.rows.now in
    let kept = c.args.kept.now in
    let all : c.loop-place.place ≡ length rows = omega arith in
    λ d. subst (λ n. c.loop-place.implied.items ≡ map (λ place. implied_by (listed_of rows d kept) place (get_or rows place d).tuple.overhead) (dropped_places n (places_of kept)))
    all (c.loop-place.invariant.entries d)

pub loop-place-preserved : goal.loop-place-preserved
loop-place-preserved c =
    let rows = c.args.rows.now in
    let kept = c.args.kept.now in
    let n = c.loop-place.place in
    let row = c.index-rows-place.result in
    let entry : Request → ℕ → Implied = λ d place. implied_by (listed_of rows d kept) place (get_or rows place d).tuple.overhead in
    let said = c.requires.marked n false (omega (arith, c.requires.room, c.loop-place-test.true)) in
    elim c.if-not-marks-place.branch [
      | then-not-marks-place w ↦
          let unmarked : list_any (λ (k : Kept). k.place == n) kept ≡ false = sym said ∙ w.if-not-marks-place.true in
          record {
            few = rw w.implied-is (omega (arith, c.loop-place.invariant.few, ap length w.push.ensures.items, length-append c.loop-place.implied.items (w.implied_by.result ∷ [])));
            entries = λ d.
                let over = ap (λ (r : Request). r.tuple.overhead) (get_or_read rows n row c.loop-place-test.true c.index-rows-place.is d) in
                rw w.implied-is
                (entries_more n (places_of kept) (entry d) c.loop-place.implied.items _ w.implied_by.result (c.loop-place.invariant.entries d)
                (sym (any_place kept n) ∙ unmarked)
                (w.implied_by.ensures (listed_of rows d kept) (Lists-listed_of rows c.args.announced.now kept d c.requires.keeps)
                ∙ ap (implied_by (listed_of rows d kept) n) over)
                w.push.ensures.items);
          }
      | else-not-marks-place w ↦
          let marked : list_any (λ (k : Kept). k.place == n) kept ≡ true = sym said ∙ w.if-not-marks-place.false in
          record {
            few = rw w.implied-is (omega (arith, c.loop-place.invariant.few));
            entries = λ d.
                rw w.implied-is
                (entries_same n (places_of kept) (entry d) c.loop-place.implied.items (c.loop-place.invariant.entries d)
                (sym (any_place kept n) ∙ marked));
          }
    ]

pub implied_by-requires-clause-as_many : goal.implied_by-requires-clause-as_many
implied_by-requires-clause-as_many c =
    as_many_requests c.args.rows.now c.args.announced.now c.args.kept.now c.requires.keeps c.index-rows-place.result
