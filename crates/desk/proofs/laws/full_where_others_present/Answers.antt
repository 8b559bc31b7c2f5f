use Rattle.desk.proofs.OthersLemmas.{base_law, full_law}
use Rattle.desk.proofs.laws.full_where_others_present.Goals as goal

pub returns-clause-base : goal.returns-clause-base
returns-clause-base c = λ gap ms base entries t. base_law gap ms base entries t.begins t.stays t.legal

pub returns-clause-full : goal.returns-clause-full
returns-clause-full c =
    λ gap ms base entries owner stay t. full_law gap ms base entries owner stay t.begins t.stays t.legal
