use Rattle.std.proofs.Common.{◌∙◌, [], ap, refl, Bor, List, ℕ, length, map, replicate, arith}
use Rattle.std.proofs.lemmas.Result.{IfErr-weaker, err_from_is_err_and, on_ok_weaker}
use Rattle.settings.specs.declared.settings.LegSettings.{LegSettings}
use Rattle.replay.specs.LastPackets.{no_packet}
use Rattle.replay.specs.Printing.{scene_of}
use Rattle.replay.specs.Shown.{trail}
use Rattle.replay.proofs.ReplayLemmas.{ends, fails, goes_on, opens, outside_fails}
use Rattle.replay.proofs.replay.play_lines.Goals as goal

pub loop-line-init : goal.loop-line-init
loop-line-init g c = record {
  counted = refl;
  desks = c.in_ok-world.ensures.desk_count;
  played = opens c.args.choice.settings.now (scene_of c.args.choice) c.args.text.now (map (λ (x : Bor (List ℕ)). x.now) c.deref-line-items.result.now)
      c.in_ok-world.world (record { latest = c.none.result; said = 0 }) c.in_ok-packets.packets (g.O.Write.contents c.args.writer.now)
      c.in_ok-world.ensures
      (ap (map (λ (x : Bor (List ℕ)). x.now)) c.deref-line-items.ensures.value ∙ c.in_ok-lines.ensures) c.none.ensures
      (ap (trail 0) (c.in_ok-packets.ensures ∙ ap (λ (legs : List LegSettings). replicate (length legs) no_packet) c.legs.ensures.value));
}

-- what stands past the last line
nothing : Bor (List ℕ)
nothing = record { ref_ptr = (0, 0); now = [] }

pub returns-in_err-progress-clause-refused : goal.returns-in_err-progress-clause-refused
unfolding nothing
returns-in_err-progress-clause-refused g c =
    let contents = g.O.Write.contents in
    let p = err_from_is_err_and c.from_residual-in_err-progress.result c.from_residual-in_err-progress.ensures.1 in
    rw (p.1, p.2)
    (fails c.args.choice.settings.now (scene_of c.args.choice) c.args.text.now c.loop-line.line-index c.loop-line.number c.deref-line-items.result.now
    nothing c.loop-line.world c.loop-line.progress c.loop-line.packets (contents c.args.writer.now) (contents c.loop-line.writer)
    (contents c.play_line.new.writer) c.in_err-progress.field-0.0 c.loop-line-test.true c.loop-line.invariant.counted c.loop-line.invariant.played
    c.in_err-progress.ensures.stopped)

pub loop-line-preserved : goal.loop-line-preserved
unfolding nothing
loop-line-preserved g c =
    let contents = g.O.Write.contents in record {
      counted = omega (arith, c.loop-line.invariant.counted);
      desks = c.in_ok-progress.ensures.desks ∙ c.loop-line.invariant.desks;
      played = goes_on c.args.choice.settings.now (scene_of c.args.choice) c.args.text.now c.loop-line.line-index c.loop-line.number
          c.deref-line-items.result.now nothing c.loop-line.world c.play_line.new.world c.loop-line.progress c.in_ok-progress.progress
          c.loop-line.packets c.play_line.new.packets (contents c.args.writer.now) (contents c.loop-line.writer) (contents c.play_line.new.writer)
          c.loop-line-test.true c.loop-line.invariant.counted c.loop-line.invariant.played c.in_ok-progress.ensures.played;
    }

pub returns-clause-done : goal.returns-clause-done
returns-clause-done g c =
    let contents = g.O.Write.contents in
    on_ok_weaker c.end_all.result
    (λ printed. ends c.args.choice.settings.now (scene_of c.args.choice) c.args.text.now c.loop-line.line-index c.deref-line-items.result.now
    c.loop-line.world c.loop-line.progress c.loop-line.packets (contents c.args.writer.now) (contents c.loop-line.writer)
    (contents c.end_all.new.writer) c.loop-line-test.false c.loop-line.invariant.played (printed c.loop-line.progress.said))
    c.end_all.ensures.printed

pub returns-clause-refused : goal.returns-clause-refused
returns-clause-refused g c =
    let contents = g.O.Write.contents in
    IfErr-weaker c.end_all.result _ _
    (λ failure outside. outside_fails c.args.choice.settings.now (scene_of c.args.choice) c.args.text.now (contents c.args.writer.now)
    (contents c.end_all.new.writer) failure outside)
    c.end_all.ensures.outside
