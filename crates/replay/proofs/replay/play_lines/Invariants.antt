use Rattle.std.proofs.Common.{◌≡◌, length, map}
use Rattle.replay.specs.Printing.{scene_of}
use Rattle.replay.proofs.ReplayLemmas.{Played}
use Rattle.replay.proofs.replay.play_lines.Given as goal

abbrev pub invariant-loop-line : goal.invariant-loop-line
invariant-loop-line g l = record {
  counted : l.number ≡ l.line-index;
  desks : length l.world.desks ≡ length l.choice.settings.now.endpoints;
  played : Played l.choice.settings.now (scene_of l.choice) l.text l.line-index (map (λ x. x.now) l.line-items) l.world l.progress
      l.packets (g.O.Write.contents l.fn.writer) (g.O.Write.contents l.writer);
}
