use Rattle.std.specs.List.{AllWithin}
use Rattle.datagram.specs.Spelling.{IsAskInRange}
use Rattle.datagram.proofs.spelling.is_sayable.Given as goal

abbrev pub invariant-loop-ask : goal.invariant-loop-ask
invariant-loop-ask l = AllWithin IsAskInRange l.asks 0 l.ask-index
