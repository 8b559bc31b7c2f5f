use Rattle.std.proofs.Common.{arith}
use Rattle.announcement.proofs.JoinLemmas.{nack_joins, tmmb_joins, pli_joins}
use Rattle.announcement.proofs.laws.writers_join_compounds.Goals as goal

pub returns-clause-tmmbr : goal.returns-clause-tmmbr
returns-clause-tmmbr c = λ sender entries few. tmmb_joins 3 sender entries (omega arith) few

pub returns-clause-tmmbn : goal.returns-clause-tmmbn
returns-clause-tmmbn c = λ sender entries few. tmmb_joins 4 sender entries (omega arith) few

pub returns-clause-pli : goal.returns-clause-pli
returns-clause-pli c = λ sender media. pli_joins sender media

pub returns-clause-nack : goal.returns-clause-nack
returns-clause-nack c = λ sender media entries few. nack_joins sender media entries few
