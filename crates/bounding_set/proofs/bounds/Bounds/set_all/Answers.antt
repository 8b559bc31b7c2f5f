use Rattle.std.proofs.Common.{length, arith, sym, ap, ◌∙◌, subst}
use Rattle.std.specs.Prelude.{All}
use Rattle.bounding_set.specs.Canonical.{StopsMedia}
use Rattle.bounding_set.specs.Announced.{HoldsStops, announced_among}
use Rattle.bounding_set.proofs.BoundsLemmas.{no_stops, chosen_among}
use Rattle.bounding_set.proofs.bounds.Bounds.set_all.Goals as goal

-- each request that is announced took a test, but for one
pub returns-clause-each_more : goal.returns-clause-each_more
returns-clause-each_more c =
    let rows = c.put_all.new.rows.items in
    let lines = c.put_all.new.lines.items in
    let stops = c.update_stops.new.stops.items in
    let announced = chosen_among rows c.as_slice-rows.result.now lines c.as_slice-lines.result.now stops c.as_slice-stops.result.now c.announce.new.cert
    c.as_slice-rows.ensures.value c.as_slice-lines.ensures.value c.as_slice-stops.ensures.value c.announce.ensures.chosen in
    let holds : HoldsStops rows stops = subst (λ rs. HoldsStops rs stops) c.as_slice-rows.ensures.value c.update_stops.ensures.holds in
    λ send.
    let none = no_stops rows stops holds (subst (All (λ r. ¬ StopsMedia r)) (sym c.put_all.ensures.rows) send) in
    omega (arith, ap length (announced ∙ ap (λ ss. announced_among ss lines) none), c.put_all.ensures.each)
