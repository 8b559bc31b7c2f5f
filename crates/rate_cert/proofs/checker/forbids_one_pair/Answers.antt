use Rattle.tmmbr_tuple.specs.RatePair.{Forbids, pair_of}
use Rattle.tmmbr_tuple.proofs.RatePairLemmas.{Forbids-from_not_Permits}
use Rattle.rate_cert.specs.declared.certificate.Kept.{Kept}
use Rattle.rate_cert.proofs.CheckerLemmas.{refuted, no_is, pair_at}
use Rattle.rate_cert.proofs.checker.forbids_one_pair.Goals as goal

pub returns-then-not-permits-2 : goal.returns-then-not-permits-2
returns-then-not-permits-2 c = no_is (λ all.
    let tuple = c.args.request.now.tuple in
    pair_at (λ (x y : Kept). Forbids tuple (pair_of x.pair) → ¬ Forbids tuple (pair_of y.pair)) c.args.kept.now
    c.loop-j.j c.loop-k.k c.index-kept-j.result c.index-kept-k.result c.loop-k-test.true
    (λ d. all c.loop-j.j c.loop-k.k d c.loop-j-test.true c.loop-k-test.true)
    (Forbids-from_not_Permits tuple _
    (refuted c.permits-in-loop-j.result c.permits-in-loop-j.ensures c.if-not-permits-2.true))
    (Forbids-from_not_Permits tuple _
    (refuted c.permits.result c.permits.ensures c.if-not-permits.true)))
