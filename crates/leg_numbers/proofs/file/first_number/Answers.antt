use Rattle.std.proofs.Common.{rules}
use Rattle.leg_numbers.proofs.NumberLemmas.{numbers_next}
use Rattle.leg_numbers.proofs.file.first_number.Goals as goal

pub returns-clause-numbers : goal.returns-clause-numbers
returns-clause-numbers c =
    numbers_next c.args.bytes.now c.in_ok-row.row.now c.in_ok-row.left.now c.read_u16.result (search rules) (search rules)
