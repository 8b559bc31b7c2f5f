use Rattle.std.proofs.Common.{◌≡◌, ◌++◌, take}
use Rattle.std.specs.Prelude.{flat_map}
use Rattle.std.specs.String.{string_bytes}
use Rattle.rate_cert.specs.declared.certificate.Kept.{Kept}
use Rattle.drawing.specs.Picture.{line_at}
use Rattle.drawing.proofs.shapes.push_kept.Given as goal

abbrev pub invariant-loop-entry : goal.invariant-loop-entry
invariant-loop-entry l = string_bytes l.text ≡ string_bytes l.fn.text ++ flat_map (λ (k : Kept). line_at l.scale l.rows k.place) (take l.entry-index l.kept)
