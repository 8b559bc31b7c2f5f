use Rattle.rate_cert.proofs.Smallest.{IsChoice-from_MeetsConditions, IsSmallest-from_MeetsConditions}
use Rattle.rate_cert.proofs.laws.certified_is_smallest.Goals as goal

pub returns-clause-choice : goal.returns-clause-choice
returns-clause-choice c = λ requests cert meets. IsChoice-from_MeetsConditions requests cert.kept.items cert.implied.items meets

pub returns-clause-smallest : goal.returns-clause-smallest
returns-clause-smallest c = λ requests cert meets. IsSmallest-from_MeetsConditions requests cert.kept.items cert.implied.items meets
