use Rattle.std.proofs.lemmas.Slice.Eq.{slice_eq-Decides}
use Rattle.udp.proofs.ScribeLemmas.{Decides-ask_eq}
use Rattle.udp.proofs.scribe.are_same_asks.Goals as goal

pub returns : goal.returns
returns c = slice_eq-Decides Decides-ask_eq _ _ _ c.eq.ensures
