use Rattle.udp.proofs.ScribeLemmas.{asks_tell, says_another}
use Rattle.udp.proofs.scribe.are_same.Goals as goal

pub returns-then-says_so : goal.returns-then-says_so
returns-then-says_so c = λ again.
    asks_tell c.args.heard.now c.args.kept.now _ c.ask_the_same.result (c.is_same_what-says_so.ensures again) c.if-says_so.true c.ask_the_same.ensures

pub returns-else-says_so : goal.returns-else-says_so
returns-else-says_so c = λ again. says_another c.args.heard.now c.args.kept.now _ (c.is_same_what-says_so.ensures again) c.if-says_so.false
