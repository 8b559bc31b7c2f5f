use Rattle.std.proofs.Common.{◌≡◌, filter, not, take}
use Rattle.desk.specs.Effect.{is_member}
use Rattle.desk.proofs.effect.list_fresh.Given as goal

abbrev pub invariant-loop-request : goal.invariant-loop-request
invariant-loop-request l = l.fresh.items ≡ filter (λ r. not (is_member l.former r)) (take l.request-index l.set)
