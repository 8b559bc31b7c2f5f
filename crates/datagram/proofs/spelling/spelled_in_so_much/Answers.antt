use Rattle.datagram.proofs.SpelledLengthLemmas.{control_length, goodbye_length}
use Rattle.datagram.proofs.spelling.spelled_in_so_much.Goals as goal

pub returns-clause-goodbye : goal.returns-clause-goodbye
returns-clause-goodbye c = goodbye_length

pub returns-clause-control : goal.returns-clause-control
returns-clause-control c = control_length
