use Rattle.std.proofs.Common.{arith}
use Rattle.std.proofs.lemmas.Result.{err_from_is_err_and}
use Rattle.cli.proofs.SheetLemmas.{goes_on, stops}
use Rattle.request_text.proofs.WordLemmas.{nothing}
use Rattle.cli.proofs.checking.read_sheet.Goals as goal

pub returns-in_err-take_line : goal.returns-in_err-take_line
returns-in_err-take_line c =
    let left = c.loop-line.invariant.left in
    let lines = c.deref-line-items.result.now in
    let p = err_from_is_err_and c.from_residual-in_err-take_line.result c.from_residual-in_err-take_line.ensures.1 in
    rw (p.1, p.2)
    (stops c.loop-line.line-index c.loop-line.number lines nothing left.0 c.args.text.now c.in_err-take_line.field-0.0
    c.loop-line-test.true c.loop-line.invariant.counted left.2 (c.in_err-take_line.ensures left.0 left.1))

pub loop-line-preserved : goal.loop-line-preserved
loop-line-preserved c =
    let invariant = c.loop-line.invariant.left in
    let lines = c.deref-line-items.result.now in
    let next = c.in_ok-take_line.ensures invariant.0 invariant.1 in record {
      counted = omega (arith, c.loop-line.invariant.counted);
      left = (
        next.0,
        next.2,
        λ left others. invariant.2 left
            (goes_on c.loop-line.line-index lines nothing invariant.0 next.0 left c.loop-line-test.true next.1 others),
      );
    }
