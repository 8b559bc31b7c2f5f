use Rattle.core_steps.proofs.KindLemmas.{kind_of}
use Rattle.core_steps.proofs.laws.makes_due_reports.Goals as goal

pub returns : goal.returns
returns c = λ w e h does. (kind_of w e h does).reports
