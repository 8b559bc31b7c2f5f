use Rattle.std.proofs.Common.{sym, ◌∙◌}
use Rattle.bounding_set.proofs.StopScans.{first_found}
use Rattle.bounding_set.proofs.zero_rates.first_stop.Goals as goal

pub returns-then-rate-eq0 : goal.returns-then-rate-eq0
returns-then-rate-eq0 c =
    first_found c.args.rows.now c.loop-row.row-index c.row-item.result c.loop-row-test.true c.row-item.is
    c.requires.rising c.requires.none_stops_everything c.loop-row.invariant
    (sym c.rate.ensures.value ∙ c.if-rate-eq0.true)
