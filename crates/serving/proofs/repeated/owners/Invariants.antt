use Rattle.std.proofs.Common.{◌≡◌, take}
use Rattle.serving.proofs.repeated.owners.Given as goal

abbrev pub invariant-loop-owner : goal.invariant-loop-owner
invariant-loop-owner l = l.list.items ≡ take l.owner-index l.lifted
