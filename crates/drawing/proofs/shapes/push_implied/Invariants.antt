use Rattle.std.proofs.Common.{◌≡◌, ◌++◌, take}
use Rattle.std.specs.Prelude.{flat_map}
use Rattle.std.specs.String.{string_bytes}
use Rattle.rate_cert.specs.declared.certificate.Implied.{Implied}
use Rattle.drawing.specs.Picture.{line_at}
use Rattle.drawing.proofs.shapes.push_implied.Given as goal

abbrev pub invariant-loop-entry : goal.invariant-loop-entry
invariant-loop-entry l = string_bytes l.text ≡ string_bytes l.fn.text ++ flat_map (λ (i : Implied). line_at l.scale l.rows i.place) (take l.entry-index l.implied)
