use Rattle.udp.proofs.NotedLemmas.{notes_all}
use Rattle.udp.proofs.laws.notes_all.Goals as goal

pub returns : goal.returns
returns c = notes_all
