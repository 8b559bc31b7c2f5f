use Rattle.leg_numbers.proofs.NumberLemmas.{file_again}
use Rattle.leg_numbers.proofs.laws.numbers_are_read_again.Goals as goal

pub returns : goal.returns
returns c = λ digest numbers are. file_again digest numbers are
