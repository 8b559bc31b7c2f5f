use Rattle.udp.specs.Goodbyes.{LeavesPresent}
use Rattle.udp.proofs.goodbyes.say_goodbyes.Given as goal

abbrev pub invariant-loop-endpoint : goal.invariant-loop-endpoint
invariant-loop-endpoint g l =
    LeavesPresent l.settings l.present (g.S.Sink.shown l.fn.sink).handed (g.S.Sink.shown l.sink).handed
