use Rattle.std.proofs.lemmas.Result.{IfErr-weaker, on_ok_weaker}
use Rattle.replay.specs.Shown.{Scene}
use Rattle.replay.proofs.ReplayLemmas.{fails_by, prints_by, scene_is}
use Rattle.replay.proofs.replay.play_text.Goals as goal

pub returns-clause-done : goal.returns-clause-done
returns-clause-done g c =
    let contents = g.O.Write.contents in
    let v : Scene = record { table = c.in_ok-links.links; shown = c.args.shown; clock = c.in_ok-clock.clock } in
    on_ok_weaker c.play_lines.result
    (λ prints. prints_by c.args.settings.now c.args.shown v c.args.text.now (contents c.args.writer.now) (contents c.play_lines.new.writer)
    (scene_is c.args.settings.now c.args.shown c.args.text.now c.in_ok-links.links c.in_ok-clock.clock c.in_ok-links.ensures c.in_ok-clock.ensures) prints)
    c.play_lines.ensures.done

pub returns-clause-refused : goal.returns-clause-refused
returns-clause-refused g c =
    let contents = g.O.Write.contents in
    let v : Scene = record { table = c.in_ok-links.links; shown = c.args.shown; clock = c.in_ok-clock.clock } in
    IfErr-weaker c.play_lines.result _ _
    (λ failure fails. fails_by c.args.settings.now c.args.shown v c.args.text.now (contents c.args.writer.now) (contents c.play_lines.new.writer) failure
    (scene_is c.args.settings.now c.args.shown c.args.text.now c.in_ok-links.links c.in_ok-clock.clock c.in_ok-links.ensures c.in_ok-clock.ensures) fails)
    c.play_lines.ensures.refused
