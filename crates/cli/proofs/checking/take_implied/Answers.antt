use Rattle.std.proofs.Common.{refl}
use Rattle.cli.proofs.SheetLemmas.{takes_implied}
use Rattle.cli.proofs.checking.take_implied.Goals as goal

pub returns-in_ok-take_request-in-Ok : goal.returns-in_ok-take_request-in-Ok
returns-in_ok-take_request-in-Ok c = λ entries is.
    let sheet = c.args.sheet.now in
    let others = c.take_request.ensures.others in
    let pushed = c.in_ok-take_request-in-Ok.ensures.asked in
    let left = takes_implied entries c.args.request c.args.claim sheet.requests.items sheet.kept.items sheet.claims.items is (rw sheet.requests.ok.0 at c.requires)
    (c.in-Ok.ensures.variant.0 refl) in
    rw (pushed, others.0, others.1, c.in-Ok.ensures.ok, c.len-place.ensures, sheet.requests.ok.0) left
