use Rattle.datagram.proofs.ReadAgainLemmas.{read_one}
use Rattle.datagram.proofs.spelling.read_one_way.Goals as goal

pub returns : goal.returns
returns c = read_one
