use Rattle.std.proofs.Common.{◌≡◌, ◌∙◌, sym, ap, length, take, subst}
use Rattle.std.specs.Prelude.{All}
use Rattle.rate_cert.specs.Choice.{IsChoice}
use Rattle.rate_cert.specs.Certificate.{HasNeighbours, named_places, places_of}
use Rattle.rate_cert.proofs.CheckerLemmas.{shown, refuted, no_of, take-named_places}
use Rattle.rate_cert.proofs.checker.has_places.Goals as goal

pub returns-then-are_places : goal.returns-then-are_places
returns-then-are_places c =
    let places = c.as_slice-places.result.now in
    let are_named : places ≡ named_places c.args.kept.now c.args.implied.now =
    c.as_slice-places.ensures.value ∙ c.named-named.ensures in
    let front : take (length c.args.kept.now) places ≡ places_of c.args.kept.now =
    ap (take (length c.args.kept.now)) are_named ∙ take-named_places c.args.kept.now c.args.implied.now in (
      λ is. record {
        named = subst (IsChoice c.args.requests.now) are_named (shown c.are_places.result c.are_places.ensures c.if-are_places.true);
        neighbours = subst (λ ps. All (HasNeighbours ps) c.args.implied.now) front (c.are_kept.ensures.0 is);
      },
      λ has. c.are_kept.ensures.1 (subst (λ ps. All (HasNeighbours ps) c.args.implied.now) (sym front) has.neighbours),
    )

pub returns-else-are_places : goal.returns-else-are_places
returns-else-are_places c =
    let places = c.as_slice-places.result.now in
    let are_named : places ≡ named_places c.args.kept.now c.args.implied.now = c.as_slice-places.ensures.value ∙ c.named-named.ensures in
    let unmet : IsChoice c.args.requests.now places → ⊥ = refuted c.are_places.result c.are_places.ensures c.if-are_places.false in
    no_of c.are_places.result c.if-are_places.false
    (λ has. unmet (subst (IsChoice c.args.requests.now) (sym are_named) has.named))
