use Rattle.udp.proofs.ScribeLemmas.{told_by_reading}
use Rattle.udp.proofs.scribe.Scribe.says.Goals as goal

pub returns : goal.returns
returns c = λ again.
    told_by_reading c.args.own.0 c.args.bytes.now _ c.args.kept.now c.are_same.result c.in_ok-read.ensures.ok (c.are_same.ensures again)
