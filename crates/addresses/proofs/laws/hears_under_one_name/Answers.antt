use Rattle.addresses.proofs.NameLemmas.{first_named, hears_under, left_named}
use Rattle.addresses.proofs.laws.hears_under_one_name.Goals as goal

pub returns : goal.returns
returns c = record { begins = first_named; hears = hears_under; left = left_named }
