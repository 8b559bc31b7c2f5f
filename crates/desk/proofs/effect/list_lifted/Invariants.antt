use Rattle.std.proofs.Common.{◌≡◌, take}
use Rattle.desk.proofs.EffectLemmas.{sources_of, gone}
use Rattle.desk.proofs.effect.list_lifted.Given as goal

abbrev pub invariant-loop-request : goal.invariant-loop-request
invariant-loop-request l = l.lifted.items ≡ sources_of (gone (take l.request-index l.former) l.set)
