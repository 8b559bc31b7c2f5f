use Rattle.std.proofs.Common.{◌<◌, sym, subst}
use Rattle.std.specs.Prelude.{All}
use Rattle.bounding_set.proofs.LastLemmas.{take-below}
use Rattle.bounding_set.proofs.live.put_all.Goals as goal

pub put_last-requires-clause-above : goal.put_last-requires-clause-above
put_last-requires-clause-above c =
    let x = c.request-item.result in
    subst (All (λ r. r.owner.0 < x.owner.0)) (sym c.loop-request.invariant.rows)
    (take-below c.args.requests.now c.loop-request.request-index x c.requires.rising c.loop-request-test.true c.request-item.is)
