use Rattle.std.proofs.Common.{◌≡◌, length}
use Rattle.events.specs.declared.event.Event.TheVariants.{Work}
use Rattle.core_steps.specs.Waits.{has_work}
use Rattle.core_steps.specs.Settling.{ingress_left, work_left}
use Rattle.replay.proofs.ReplayLemmas.{Drained}
use Rattle.replay.proofs.replay.drain_worker.Given as goal

abbrev pub invariant-loop-world : goal.invariant-loop-world
invariant-loop-world l = record {
  desks : length l.world.desks ≡ length l.fn.world.desks;
  drained : Drained (λ w. has_work w l.worker) (Work l.worker) l.fn.world l.world l.fn.outs.items l.outs.items;
  ingress : ingress_left l.world ≡ ingress_left l.fn.world;
}

abbrev pub decreases-loop-world : goal.decreases-loop-world
decreases-loop-world l = work_left l.world l.worker
