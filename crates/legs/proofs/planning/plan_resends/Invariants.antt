use Rattle.std.proofs.Common.{◌≡◌, ◌++◌, take}
use Rattle.legs.specs.Planning.{resends}
use Rattle.legs.proofs.planning.plan_resends.Given as goal

abbrev pub invariant-loop-seq : goal.invariant-loop-seq
invariant-loop-seq l = l.plan ≡ l.initial.plan ++ resends l.place l.leg (take l.seq-index l.numbers)
