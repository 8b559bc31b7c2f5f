use Rattle.std.proofs.Common.{ap}
use Rattle.resend_ring.specs.Kept.{last_kept_with}
use Rattle.resend_ring.proofs.KeptLemmas.{kept_from_none}
use Rattle.resend_ring.proofs.laws.keeps_the_last.Goals as goal

pub returns-clause-kept : goal.returns-clause-kept
returns-clause-kept g c = λ capacity packets. kept_from_none capacity packets

pub returns-clause-found : goal.returns-clause-found
returns-clause-found g c = λ capacity seq packets. ap (λ kept. last_kept_with kept seq) (kept_from_none capacity packets)
