use Rattle.replay.specs.Printing.{scene_of}
use Rattle.replay.specs.Shown.{cause_of, event_told, trail}
use Rattle.replay.proofs.ShownLemmas.{both_printed}
use Rattle.replay.proofs.giving.print_both.Goals as goal

pub returns-clause-printed : goal.returns-clause-printed
returns-clause-printed g c =
    let contents = g.O.Write.contents in
    both_printed (scene_of c.args.choice) (trail c.args.said c.args.packets.now) (trail c.in_ok-event.event c.args.packets.now)
    (trail c.in_ok-behind.behind c.print_outs.new.packets) (cause_of c.args.latest) (event_told c.args.is_event) c.args.outs.now
    (contents c.args.writer.now) (contents c.print_event.new.writer) (contents c.print_outs.new.writer)
    (c.in_ok-event.ensures.printed c.args.packets.now) c.in_ok-behind.ensures.printed
