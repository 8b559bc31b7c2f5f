use Rattle.rtcp_compound.proofs.LawLemmas.{reads_alone, reads_front, reads_written}
use Rattle.rtcp_compound.proofs.laws.reads_in_front.Goals as goal

pub returns-clause-alone : goal.returns-clause-alone
returns-clause-alone c = λ ps each some. reads_alone ps each some

pub returns-clause-front : goal.returns-clause-front
returns-clause-front c = λ ps qs datagram each h. reads_front ps qs datagram each h

pub returns-clause-written : goal.returns-clause-written
returns-clause-written c = λ p content appended datagram qs a h. reads_written p content appended datagram qs a h
