use Rattle.std.proofs.Common.{◌∙◌, ap}
use Rattle.replay.specs.Printing.{scene_of}
use Rattle.replay.specs.Script.{script_line_of}
use Rattle.replay.specs.declared.script.Numbers.{Numbers}
use Rattle.replay.proofs.ReplayLemmas.{passes}
use Rattle.replay.proofs.replay.play_line.Goals as goal

pub returns-in_ok-print_comment-in-Skipped-clause-played : goal.returns-in_ok-print_comment-in-Skipped-clause-played
returns-in_ok-print_comment-in-Skipped-clause-played g c =
    let contents = g.O.Write.contents in
    passes c.args.choice.settings.now (scene_of c.args.choice) c.args.number c.args.line.now c.args.world.now c.args.progress
    (record { latest = c.after-latest.result; said = c.args.progress.said }) c.args.packets.now (contents c.args.writer.now)
    (contents c.print_comment.new.writer) c.in_ok-reading.reading c.in-Skipped.is
    (c.in_ok-reading.ensures ∙ ap (λ (n : Numbers). script_line_of n c.args.line.now) c.numbers_of.ensures)
    c.after-latest.ensures (c.in_ok-print_comment-in-Skipped.ensures.printed c.args.progress.said c.args.packets.now)
