use Rattle.std.proofs.Common.{[], refl}
use Rattle.rewrite.specs.Leg.{new_leg}
use Rattle.rewrite.proofs.NumberingLemmas.{held_after-is}
use Rattle.rewrite.proofs.laws.holds.Goals as goal

pub returns : goal.returns
returns c = λ first packets fits seqs. held_after-is first (new_leg first) [] packets refl fits seqs refl
