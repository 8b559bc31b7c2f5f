use Rattle.rtcp_feedback.proofs.NackWriteLemmas.{nack_length, tmmb_length}
use Rattle.rtcp_feedback.proofs.laws.writers_write_so_much.Goals as goal

pub returns-clause-tmmb : goal.returns-clause-tmmb
returns-clause-tmmb c = λ fmt sender entries. tmmb_length fmt sender entries

pub returns-clause-nack : goal.returns-clause-nack
returns-clause-nack c = λ sender media entries. nack_length sender media entries
