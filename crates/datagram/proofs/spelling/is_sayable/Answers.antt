use Rattle.std.proofs.Common.{length}
use Rattle.std.specs.List.{All}
use Rattle.std.proofs.lemmas.List.Elements.{All-from_all_within, AllWithin-upto}
use Rattle.datagram.specs.Spelling.{IsAskInRange}
use Rattle.datagram.proofs.SpellingLemmas.{spelling_said}
use Rattle.datagram.proofs.spelling.is_sayable.Goals as goal

each_in_range : (c : goal.After-loop-ask) → All IsAskInRange c.args.asks.now
each_in_range c =
    let asks = c.args.asks.now in
    All-from_all_within IsAskInRange asks (AllWithin-upto IsAskInRange asks 0 c.loop-ask.ask-index (length asks) c.loop-ask-test.false c.loop-ask.invariant)

pub returns : goal.returns
returns c = spelling_said c.args.own.0 c.args.what c.args.asks.now c.args.came.now c.requires c.what_in_range.ensures (each_in_range c)
