use Rattle.datagram.proofs.SpellingLemmas.{as_heard, fewer_heard, read_up_to}
use Rattle.datagram.proofs.spelling.stays_as_heard.Goals as goal

pub returns-clause-read : goal.returns-clause-read
returns-clause-read c = as_heard

pub returns-clause-fewer : goal.returns-clause-fewer
returns-clause-fewer c = fewer_heard

pub returns-clause-read_up_to : goal.returns-clause-read_up_to
returns-clause-read_up_to c = read_up_to
