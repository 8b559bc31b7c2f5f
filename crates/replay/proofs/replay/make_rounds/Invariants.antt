use Rattle.std.proofs.Common.{◌≡◌, length}
use Rattle.core_steps.specs.Settling.{ingress_left}
use Rattle.replay.proofs.ReplayLemmas.{RoundsMade}
use Rattle.replay.proofs.replay.make_rounds.Given as goal

abbrev pub invariant-loop-world : goal.invariant-loop-world
invariant-loop-world l = record {
  desks : length l.world.desks ≡ length l.fn.world.desks;
  made : RoundsMade l.workers l.fn.world l.world l.fn.outs.items l.outs.items;
}

abbrev pub decreases-loop-world : goal.decreases-loop-world
decreases-loop-world l = ingress_left l.world
