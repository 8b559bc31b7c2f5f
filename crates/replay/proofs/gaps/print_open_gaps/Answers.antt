use Rattle.replay.specs.Printing.{scene_of}
use Rattle.replay.specs.Shown.{cause_of}
use Rattle.replay.proofs.ShownLemmas.{more_gaps}
use Rattle.replay.proofs.gaps.print_open_gaps.Goals as goal

pub loop-leg-preserved : goal.loop-leg-preserved
loop-leg-preserved g c =
    let contents = g.O.Write.contents in
    more_gaps (scene_of c.args.choice) c.args.packets.now (cause_of c.args.latest) c.loop-leg.leg c.of_leg.result (contents c.args.writer.now)
    (contents c.loop-leg.writer) (contents c.print_open.new.writer) c.of_leg.ensures c.loop-leg.invariant c.in_ok-print_open.ensures.printed
