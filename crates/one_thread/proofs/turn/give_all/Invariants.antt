use Rattle.std.proofs.Common.{take}
use Rattle.one_thread.specs.Turns.{SendsCounted}
use Rattle.one_thread.proofs.turn.give_all.Given as goal

abbrev pub invariant-loop-place : goal.invariant-loop-place
invariant-loop-place g l =
    SendsCounted (take l.place l.outs) (g.S.Sink.shown l.fn.sink) (g.S.Sink.shown l.sink) l.fn.tally l.tally
