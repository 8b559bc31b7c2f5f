use Rattle.replay.specs.Printing.{scene_of}
use Rattle.replay.specs.Shown.{cause_of}
use Rattle.replay.proofs.ShownLemmas.{out_told}
use Rattle.replay.proofs.printing.print_one.Goals as goal

pub returns : goal.returns
returns g c =
    let contents = g.O.Write.contents in
    let told = out_told (scene_of c.args.choice) c.args.said c.in_ok-behind.behind c.args.packets.now c.note.new.self (cause_of c.args.latest) c.args.out.now
    c.leg_sent-leg.result c.packet.result (contents c.args.writer.now) (contents c.print_gap_before.new.writer) (contents c.print_shown.new.writer)
    c.leg_sent-leg.ensures c.packet.ensures c.in_ok-print_gap_before.ensures.printed c.in_ok-behind.ensures.text c.in_ok-behind.ensures.behind
    c.note.ensures in
    record { printed = told }
