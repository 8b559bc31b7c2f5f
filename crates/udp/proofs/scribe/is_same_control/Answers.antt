use Rattle.udp.proofs.ScribeLemmas.{Decides-control_eq}
use Rattle.std.proofs.lemmas.Bool.Decides.{Decides-at}
use Rattle.udp.proofs.scribe.is_same_control.Goals as goal

pub returns : goal.returns
returns c = Decides-at _ _ c.eq.ensures (Decides-control_eq c.args.heard c.args.kept)
