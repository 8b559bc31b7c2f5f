use Rattle.std.proofs.Common.{◌≡◌, ◌++◌, take}
use Rattle.std.specs.Prelude.{flat_map}
use Rattle.std.specs.String.{string_bytes}
use Rattle.drawing.specs.Picture.{forbidden_text}
use Rattle.drawing.proofs.shapes.push_forbidden.Given as goal

abbrev pub invariant-loop-request : goal.invariant-loop-request
invariant-loop-request l = string_bytes l.text ≡ string_bytes l.fn.text ++ flat_map (forbidden_text l.scale) (take l.request-index l.rows)
