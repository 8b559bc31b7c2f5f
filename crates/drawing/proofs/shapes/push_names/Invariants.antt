use Rattle.std.proofs.Common.{◌≡◌, ◌++◌, take}
use Rattle.std.specs.String.{string_bytes}
use Rattle.drawing.specs.Picture.{each_row, named_text}
use Rattle.drawing.proofs.shapes.push_names.Given as goal

abbrev pub invariant-loop-entry : goal.invariant-loop-entry
invariant-loop-entry l =
    (l.number ≡ l.entry-index)
    × (string_bytes l.text ≡ string_bytes l.fn.text ++ each_row (named_text l.scale l.rows) 0 (take l.entry-index l.kept))
