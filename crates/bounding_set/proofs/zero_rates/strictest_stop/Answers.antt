use Rattle.std.proofs.Common.{◌+◌, sym, subst}
use Rattle.rate_cert.proofs.CheckerLemmas.{shown, refuted}
use Rattle.bounding_set.proofs.StopScans.{IsStrictestSoFar, strictest_found, strictest_taken, strictest_left}
use Rattle.bounding_set.proofs.zero_rates.strictest_stop.Goals as goal
use Rattle.bounding_set.proofs.zero_rates.strictest_stop.Goals.{then-stops_everything+then-is_stricter, else-stops_everything, else-stops_everything-via-then-stops_everything+else-is_stricter, else-stops_everything-via-else-stops_everything}

pub loop-row-preserved : goal.loop-row-preserved
loop-row-preserved c =
    let rows = c.args.rows.now in
    let i = c.loop-row.row-index in
    let row = c.row-item.result in
    let best = c.loop-row.strictest in
    let left = strictest_left rows i row c.loop-row-test.true c.row-item.is best c.loop-row.invariant in
    elim c.if-stops_everything.branch [
      | then-stops_everything+then-is_stricter w ↦
          subst (IsStrictestSoFar rows (i + 1)) (sym w.strictest-is)
          (strictest_taken rows i row c.loop-row-test.true c.row-item.is best c.loop-row.invariant
          (shown c.stops_everything.result c.stops_everything.ensures w.if-stops_everything.true)
          (shown w.is_stricter.result w.is_stricter.ensures w.if-is_stricter.true))
      | else-stops_everything w ↦
          subst (IsStrictestSoFar rows (i + 1)) (sym w.strictest-is)
          (elim w.else-stops_everything.branch [
            | else-stops_everything-via-then-stops_everything+else-is_stricter v ↦
                left (λ _. refuted v.is_stricter.result v.is_stricter.ensures v.if-is_stricter.false)
            | else-stops_everything-via-else-stops_everything v ↦
                left (λ stops _. refuted c.stops_everything.result c.stops_everything.ensures v.if-stops_everything.false stops)
          ])
    ]

pub returns : goal.returns
returns c = strictest_found c.args.rows.now c.loop-row.row-index c.loop-row-test.false c.requires c.loop-row.strictest c.loop-row.invariant
