use Rattle.std.proofs.Common.{List, length, ap, subst, ◌∙◌}
use Rattle.legs.specs.declared.leg.LegState.{LegState}
use Rattle.legs.specs.Planning.{ListsPlaces, FindsPlaces}
use Rattle.legs.proofs.LegLemmas.{owned_few, found_new}
use Rattle.legs.proofs.legs.Legs.new.Goals as goal

pub published-requires : goal.published-requires
published-requires c =
    owned_few c.args.links.now c.args.ring c.args.worker c.as_slice-owned.result.now c.endpoints-endpoints.ensures.table
    (c.as_slice-owned.ensures.value ∙ c.in_ok-legs.ensures)

pub places-requires : goal.places-requires
places-requires c =
    owned_few c.args.links.now c.args.ring c.args.worker c.as_slice-owned.result.now c.endpoints-endpoints.ensures.table
    (c.as_slice-owned.ensures.value ∙ c.in_ok-legs.ensures)

pub invariant_of-result : goal.invariant_of-result
invariant_of-result c =
    let value = c.as_slice-owned.ensures.value in
    let count = length c.endpoints-endpoints.result.now in
    let lists = subst (λ (l : List LegState). ListsPlaces c.in_ok-published.published.items count l) value c.in_ok-published.ensures in
    let finds = subst (λ (l : List LegState). FindsPlaces c.in_ok-places.places l) value c.in_ok-places.ensures in
    found_new c.args.links.now c.args.ring c.args.worker count c.in_ok-published.published.items c.in_ok-places.places
    c.in_ok-legs.legs.items c.endpoints-endpoints.ensures.table c.in_ok-legs.ensures (ap length c.endpoints-endpoints.ensures.value) lists finds
