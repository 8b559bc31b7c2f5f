use Rattle.std.proofs.Common.{[], Ok, ◌∙◌, ap, refl, subst, Bor, List, ℕ, map, arith}
use Rattle.std.proofs.lemmas.Result.{err_from_is_err_and}
use Rattle.request_text.specs.Lines.{LinesLeave}
use Rattle.request_text.proofs.LineLemmas.{at_end, goes_on, stops}
use Rattle.request_text.proofs.LastLemmas.{holds_last}
use Rattle.request_text.proofs.LiveLemmas.{no_rows}
use Rattle.request_text.proofs.bound.read_lines.Goals as goal

pub loop-line-init : goal.loop-line-init
loop-line-init c = record {
  counted = refl;
  left = (
    [],
    no_rows c.new-bounds.result.rows c.new-bounds.ensures.rows,
    λ left lines. subst (λ (ls : List (List ℕ)). LinesLeave c.args.media.0 1 ls [] left)
        (ap (map (λ x. x.now)) c.deref-line-items.ensures.value ∙ c.in_ok-lines.ensures) lines,
  );
}

-- what stands past the last line
nothing : Bor (List ℕ)
nothing = record { ref_ptr = (0, 0); now = [] }

pub returns-in_err-take_line : goal.returns-in_err-take_line
unfolding nothing
returns-in_err-take_line c =
    let left = c.loop-line.invariant.left in
    let lines = c.deref-line-items.result.now in
    let p = err_from_is_err_and c.from_residual-in_err-take_line.result c.from_residual-in_err-take_line.ensures.1 in
    rw (p.1, p.2)
    (stops c.args.media.0 c.loop-line.line-index c.loop-line.number lines nothing left.0 c.args.text.now c.in_err-take_line.field-0.0
    c.loop-line-test.true c.loop-line.invariant.counted left.2 (c.in_err-take_line.ensures left.0 left.1))

pub loop-line-preserved : goal.loop-line-preserved
unfolding nothing
loop-line-preserved c =
    let invariant = c.loop-line.invariant.left in
    let lines = c.deref-line-items.result.now in
    let next = c.in_ok-take_line.ensures invariant.0 invariant.1 in record {
      counted = omega (arith, c.loop-line.invariant.counted);
      left = (
        next.0,
        next.2,
        λ left others. invariant.2 left
            (goes_on c.args.media.0 c.loop-line.line-index lines nothing invariant.0 next.0 left c.loop-line-test.true next.1 others),
      );
    }

pub returns : goal.returns
returns c =
    let media = c.args.media.0 in
    let left = c.loop-line.invariant.left in
    let end = at_end media c.loop-line.line-index c.deref-line-items.result.now left.0 c.loop-line-test.false in
    let all = left.2 (Ok left.0) end in
    (left.0, all, left.1, holds_last media c.args.text.now left.0 c.loop-line.bounds.rows all left.1)
