use Rattle.std.proofs.Common.{◌≡◌, ◌<◌, ℕ, ◌∙◌, subst, below_more, arith, length}
use Rattle.std.specs.Prelude.{Contains}
use Rattle.rate_cert.specs.Certificate.{named_places}
use Rattle.rate_cert.specs.Fault.{FailsFirstAt}
use Rattle.rate_cert.proofs.CheckerLemmas.{shown, refuted}
use Rattle.rate_cert.proofs.checker.first_missing.Goals as goal

pub returns-then-not-has_place : goal.returns-then-not-has_place
returns-then-not-has_place c =
    let are_named : c.as_slice-places.result.now ≡ named_places c.args.kept.now c.args.implied.now =
    c.as_slice-places.ensures.value ∙ c.named-named.ensures in
    subst (λ places. FailsFirstAt c.args.requests.now (λ k. Contains places k) c.loop-place.place) are_named (record {
      in_range = c.loop-place-test.true;
      fails = refuted c.has_place.result c.has_place.ensures c.if-not-has_place.true;
      before = c.loop-place.invariant;
    })

pub loop-place-preserved : goal.loop-place-preserved
loop-place-preserved c =
    below_more (λ k. Contains c.as_slice-places.result.now k) c.loop-place.place c.loop-place.invariant
    (shown c.has_place.result c.has_place.ensures c.if-not-has_place.false)

pub returns : goal.returns
returns c =
    let are_named : c.as_slice-places.result.now ≡ named_places c.args.kept.now c.args.implied.now =
    c.as_slice-places.ensures.value ∙ c.named-named.ensures in
    subst (λ places. (i : ℕ) → i < length c.args.requests.now → Contains places i) are_named
    (λ i below. c.loop-place.invariant i (omega arith))
