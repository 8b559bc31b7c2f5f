use Rattle.std.specs.Io.KnownBytes.{Appends}
use Rattle.replay.specs.Printing.{scene_of}
use Rattle.replay.specs.Shown.{cause_of, open_gaps}
use Rattle.replay.proofs.gaps.print_open_gaps.Given as goal

abbrev pub invariant-loop-leg : goal.invariant-loop-leg
invariant-loop-leg g l =
    Appends (g.O.Write.contents l.fn.writer) (g.O.Write.contents l.writer) (open_gaps (scene_of l.choice) l.packets (cause_of l.latest) l.leg)
