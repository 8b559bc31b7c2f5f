use Rattle.std.proofs.Common.{◌≤◌, take}
use Rattle.forwarding.specs.Sending.{Sends, total_of}
use Rattle.forwarding.proofs.sending.send_all.Given as goal

abbrev pub invariant-loop-place : goal.invariant-loop-place
invariant-loop-place g l =
    Sends (take l._place l.outs) (g.S.Sink.shown l.fn.sink) (g.S.Sink.shown l.sink) l.done
    × (total_of l.done ≤ l._place)
