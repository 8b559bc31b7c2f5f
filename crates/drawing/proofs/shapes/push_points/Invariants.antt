use Rattle.std.proofs.Common.{◌≡◌, ◌++◌, take}
use Rattle.std.specs.Prelude.{flat_map}
use Rattle.std.specs.String.{string_bytes}
use Rattle.drawing.specs.Picture.{point_text}
use Rattle.drawing.proofs.shapes.push_points.Given as goal

abbrev pub invariant-loop-entry : goal.invariant-loop-entry
invariant-loop-entry l = string_bytes l.text ≡ string_bytes l.fn.text ++ flat_map (point_text l.scale) (take l.entry-index l.kept)
