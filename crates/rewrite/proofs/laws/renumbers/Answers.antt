use Rattle.std.proofs.Common.{[], refl, arith}
use Rattle.rewrite.specs.Leg.{new_leg}
use Rattle.rewrite.proofs.NumberingLemmas.{renumbers_after, apart_after}
use Rattle.rewrite.proofs.laws.renumbers.Goals as goal

pub returns-clause-numbers : goal.returns-clause-numbers
returns-clause-numbers c = λ first packets fits seqs. renumbers_after first (new_leg first) [] packets refl fits seqs refl

pub returns-clause-apart : goal.returns-clause-apart
returns-clause-apart c = λ first packets fits seqs.
    apart_after (new_leg first) [] packets fits seqs refl (λ k d below. absurd (omega arith))
