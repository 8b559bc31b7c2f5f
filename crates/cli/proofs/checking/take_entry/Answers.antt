use Rattle.cli.proofs.SheetLemmas.{takes_live}
use Rattle.cli.proofs.checking.take_entry.Goals as goal

pub returns-in_ok-take_request-in-Live : goal.returns-in_ok-take_request-in-Live
returns-in_ok-take_request-in-Live c = λ entries is.
    let sheet = c.args.sheet.now in
    let others = c.take_request.ensures.others in
    let pushed = c.in_ok-take_request-in-Live.ensures.asked in
    let left = takes_live entries c.in-Live.request sheet.requests.items sheet.kept.items sheet.claims.items is (rw (c.len.ensures, sheet.requests.ok.0) at c.if-len-ge-MAX_LINES.false) in
    rw (c.in-Live.is, pushed, others.0, others.1) left
