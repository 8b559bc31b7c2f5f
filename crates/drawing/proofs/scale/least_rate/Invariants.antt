use Rattle.std.proofs.Common.{◌≡◌, ◌≤◌, ◌<◌, ◌^◌, take}
use Rattle.std.specs.Prelude.{IfSome}
use Rattle.drawing.specs.Scale.{least_rate}
use Rattle.drawing.proofs.scale.least_rate.Given as goal

abbrev pub invariant-loop-request : goal.invariant-loop-request
invariant-loop-request l = (l.best ≡ least_rate (take l.request-index l.rows)) × IfSome l.best (λ r. (1 ≤ r) × (r < 2 ^ 80))
