use Rattle.std.proofs.Common.{[], ◌∷◌, subst}
use Rattle.events.specs.declared.output.Out.{Out}
use Rattle.replay.specs.Printing.{PrintsGiven, scene_of}
use Rattle.replay.specs.Shown.{an_out, cause_of, trail}
use Rattle.replay.proofs.ShownLemmas.{out_printed}
use Rattle.replay.proofs.printing.print_outs.Goals as goal

pub loop-out-preserved : goal.loop-out-preserved
loop-out-preserved g c =
    let contents = g.O.Write.contents in
    let cause = cause_of c.args.latest in
    let v = scene_of c.args.choice in
    out_printed v cause (trail c.args.said c.args.packets.now) (trail c.loop-out.behind c.loop-out.packets) c.args.outs.now c.loop-out.out-index
    c.out-item.result (contents c.args.writer.now) (contents c.loop-out.writer) (contents c.print_one.new.writer) c.loop-out-test.true
    c.loop-out.invariant (trail c.in_ok-behind.behind c.print_one.new.packets)
    (subst (λ (o : Out). PrintsGiven v (trail c.loop-out.behind c.loop-out.packets)
    (record { cause = cause; told = an_out o } ∷ []) (trail c.in_ok-behind.behind c.print_one.new.packets) (contents c.loop-out.writer)
    (contents c.print_one.new.writer))
    c.out-item.is c.in_ok-behind.ensures.printed)
