use Rattle.std.proofs.Common.{◌≡◌, length}
use Rattle.events.specs.declared.event.Event.TheVariants.{Ingress}
use Rattle.core_steps.specs.Rule.{is_busy}
use Rattle.core_steps.specs.Settling.{ingress_left}
use Rattle.replay.proofs.ReplayLemmas.{Drained}
use Rattle.replay.proofs.replay.drain_ingress.Given as goal

abbrev pub invariant-loop-world : goal.invariant-loop-world
invariant-loop-world l = record {
  desks : length l.world.desks ≡ length l.fn.world.desks;
  drained : Drained is_busy Ingress l.fn.world l.world l.fn.outs.items l.outs.items;
}

abbrev pub decreases-loop-world : goal.decreases-loop-world
decreases-loop-world l = ingress_left l.world
