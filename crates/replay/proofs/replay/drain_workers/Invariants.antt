use Rattle.std.proofs.Common.{◌≡◌, length}
use Rattle.core_steps.specs.Settling.{ingress_left}
use Rattle.replay.proofs.ReplayLemmas.{WorkersDrained}
use Rattle.replay.proofs.replay.drain_workers.Given as goal

abbrev pub invariant-loop-worker : goal.invariant-loop-worker
invariant-loop-worker l = record {
  desks : length l.world.desks ≡ length l.fn.world.desks;
  drained : WorkersDrained l.workers l.worker l.fn.world l.world l.fn.outs.items l.outs.items;
  ingress : ingress_left l.world ≡ ingress_left l.fn.world;
}
