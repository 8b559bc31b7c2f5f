use Rattle.std.proofs.Common.{◌∙◌}
use Rattle.cli.proofs.SheetLemmas.{answered}
use Rattle.cli.proofs.checking.check_sheet.Goals as goal

pub returns : goal.returns
returns c = λ entries is.
    let sheet = c.args.sheet.now in
    let kept = rw c.as_slice-kept.ensures.value at c.kept_entries.ensures in
    let implied = rw (c.as_slice-kept.ensures.value, c.as_slice.ensures.value) at c.implied_entries.ensures in
    let certified = rw c.as_slice-2.ensures.value at c.check.ensures.certified in
    let first = rw c.as_slice-2.ensures.value at c.check.ensures.first_fault in
    let smallest = rw c.as_slice-2.ensures.value at c.check.ensures.smallest in
    answered entries sheet.requests.items sheet.kept.items sheet.claims.items c.kept_entries.result.items c.implied_entries.result.items c.len-past.result c.check.result
    is kept implied (c.len-past.ensures ∙ sheet.requests.ok.0) certified.0 first smallest
