use Rattle.std.proofs.Common.{◌≡◌, ◌-◌, ◌∙◌, get_or, ap, arith}
use Rattle.std.proofs.lemmas.List.{get_or_default}
use Rattle.rate_cert.specs.declared.request.Request.{Request}
use Rattle.bounding_set.proofs.LastLemmas.{rise_more}
use Rattle.bounding_set.proofs.rows.owners_rise.Goals as goal

pub loop-place-preserved : goal.loop-place-preserved
loop-place-preserved c =
    let requests = c.args.requests.now in
    let place = c.loop-place.place in
    let here = c.index-requests-place.result in
    let before = c.index-requests-place-in-loop-place.result in
    rise_more requests place c.loop-place.invariant (λ d k next.
    let same : k ≡ place - 1 = omega arith in
    let one : get_or requests k d ≡ get_or requests (place - 1) before =
    ap (λ n. get_or requests n d) same ∙ get_or_default requests (place - 1) d before (omega (arith, c.loop-place-test.true)) in
    let other : get_or requests place d ≡ get_or requests place here = get_or_default requests place d here (omega (arith, c.loop-place-test.true)) in
    omega (arith, ap (λ (r : Request). r.owner.0) one, ap (λ (r : Request). r.owner.0) other, c.if-requests-place.false))
