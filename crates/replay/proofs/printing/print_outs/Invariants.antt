use Rattle.std.proofs.Common.{map, take}
use Rattle.replay.specs.Printing.{PrintsGiven, scene_of}
use Rattle.replay.specs.Shown.{an_out, cause_of, given_at, trail}
use Rattle.replay.proofs.printing.print_outs.Given as goal

abbrev pub invariant-loop-out : goal.invariant-loop-out
invariant-loop-out g l =
    PrintsGiven (scene_of l.choice) (trail l.said l.fn.packets) (given_at (cause_of l.latest) (map an_out (take l.out-index l.outs)))
    (trail l.behind l.packets) (g.O.Write.contents l.fn.writer) (g.O.Write.contents l.writer)
