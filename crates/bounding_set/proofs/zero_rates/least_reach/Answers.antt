use Rattle.std.proofs.Common.{◌+◌, sym, subst, arith}
use Rattle.rate_cert.proofs.CheckerLemmas.{shown, refuted}
use Rattle.bounding_set.proofs.StopScans.{IsLeastSoFar, least_found, least_taken, least_left}
use Rattle.bounding_set.proofs.zero_rates.least_reach.Goals as goal
use Rattle.bounding_set.proofs.zero_rates.least_reach.Goals.{then-row-gt0+then-is_sooner, else-row-gt0, else-row-gt0-via-then-row-gt0+else-is_sooner, else-row-gt0-via-else-row-gt0}

pub loop-row-preserved : goal.loop-row-preserved
loop-row-preserved c =
    let rows = c.args.rows.now in
    let i = c.loop-row.row-index in
    let row = c.row-item.result in
    let best = c.loop-row.least in
    let left = least_left rows i row c.loop-row-test.true c.row-item.is best c.loop-row.invariant in
    elim c.if-row-gt0.branch [
      | then-row-gt0+then-is_sooner w ↦
          subst (IsLeastSoFar rows (i + 1)) (sym w.least-is)
          (least_taken rows i row c.loop-row-test.true c.row-item.is best c.loop-row.invariant w.if-row-gt0.true
          (shown w.is_sooner.result w.is_sooner.ensures w.if-is_sooner.true))
      | else-row-gt0 w ↦
          subst (IsLeastSoFar rows (i + 1)) (sym w.least-is)
          (elim w.else-row-gt0.branch [
            | else-row-gt0-via-then-row-gt0+else-is_sooner v ↦
                left (λ _. refuted v.is_sooner.result v.is_sooner.ensures v.if-is_sooner.false)
            | else-row-gt0-via-else-row-gt0 v ↦ left (λ some _. absurd (omega (arith, v.if-row-gt0.false)))
          ])
    ]

pub returns : goal.returns
returns c =
    least_found c.args.rows.now c.loop-row.row-index c.loop-row-test.false c.requires.rising c.requires.media_stopped c.requires.none_stops_everything
    c.loop-row.least c.loop-row.invariant
