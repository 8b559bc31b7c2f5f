use Rattle.std.proofs.Common.{◌≡◌, ◌++◌, List, ℕ, Bor, take}
use Rattle.std.specs.Prelude.{flat_map}
use Rattle.web.specs.State.{line_tokens}
use Rattle.web.proofs.state.push_lines.Given as goal

abbrev pub invariant-loop-line : goal.invariant-loop-line
invariant-loop-line l =
    (l.writer.before ≡ l.fn.writer.before)
    × (l.writer.tokens ≡ l.fn.writer.tokens ++ flat_map (λ (x : Bor (List ℕ)). line_tokens l.rows l.flows l.reports x.now) (take l.line-index l.lines))
