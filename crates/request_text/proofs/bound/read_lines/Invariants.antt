use Rattle.std.proofs.Common.{◌≡◌, ◌+◌, List, Result, drop, map}
use Rattle.request_text.specs.Lines.{Asked, AreRowsOf, LinesLeave, Refused, TextLeaves}
use Rattle.request_text.proofs.bound.read_lines.Given as goal

abbrev pub invariant-loop-line : goal.invariant-loop-line
invariant-loop-line l = record {
  counted : l.number ≡ l.line-index;
  left : (now : List Asked) × AreRowsOf now l.bounds.rows
      × ((left : Result (List Asked) Refused)
      → LinesLeave l.media.0 (l.line-index + 1) (drop l.line-index (map (λ x. x.now) l.line-items)) now left → TextLeaves l.media.0 l.text left);
}
