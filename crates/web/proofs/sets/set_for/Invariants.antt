use Rattle.std.proofs.Common.{◌≡◌, drop}
use Rattle.web.specs.Sets.{set_in}
use Rattle.web.proofs.sets.set_for.Given as goal

abbrev pub invariant-loop-set : goal.invariant-loop-set
invariant-loop-set l = set_in l.sets l.publisher ≡ set_in (drop l.set-index l.sets) l.publisher
