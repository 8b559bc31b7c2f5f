use Rattle.rtcp_feedback.proofs.NackWriteLemmas.{nack_again}
use Rattle.rtcp_feedback.proofs.WriteLemmas.{tmmbr_again, tmmbn_again}
use Rattle.rtcp_feedback.proofs.laws.writers_read_again.Goals as goal

pub returns-clause-tmmbr : goal.returns-clause-tmmbr
returns-clause-tmmbr c = λ sender entries fits all few. tmmbr_again sender entries fits all few

pub returns-clause-tmmbn : goal.returns-clause-tmmbn
returns-clause-tmmbn c = λ sender entries fits all few. tmmbn_again sender entries fits all few

pub returns-clause-nack : goal.returns-clause-nack
returns-clause-nack c = λ sender media entries fits media_fits all few. nack_again sender media entries fits media_fits all few
