use Rattle.datagram.proofs.SpellingLemmas.{spelling_said}
use Rattle.datagram.proofs.spelling.sayable.Goals as goal

pub returns : goal.returns
returns c = spelling_said
