use Rattle.std.proofs.Common.{◌≡◌, take}
use Rattle.std.specs.Prelude.{IfSome}
use Rattle.drawing.specs.Scale.{HasEnd, first_end}
use Rattle.drawing.proofs.scale.first_end.Given as goal

abbrev pub invariant-loop-request : goal.invariant-loop-request
invariant-loop-request l = (l.best ≡ first_end (take l.request-index l.rows)) × IfSome l.best HasEnd
