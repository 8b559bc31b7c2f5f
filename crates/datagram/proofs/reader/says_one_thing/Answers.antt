use Rattle.datagram.proofs.OneSaidLemmas.{says_one}
use Rattle.datagram.proofs.reader.says_one_thing.Goals as goal

pub returns : goal.returns
returns c = says_one
