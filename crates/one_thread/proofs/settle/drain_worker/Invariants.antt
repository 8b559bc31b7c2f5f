use Rattle.std.proofs.Common.{◌≡◌, [], length}
use Rattle.core_steps.specs.Settling.{ingress_left, work_left}
use Rattle.one_thread.specs.Driving.{Drives}
use Rattle.one_thread.proofs.settle.drain_worker.Given as goal

abbrev pub invariant-loop-world : goal.invariant-loop-world
invariant-loop-world l = record {
  drives : Drives [] l.fn.world l.fn.outs.items l.world l.outs.items;
  one : length l.world.workers ≡ 1;
  ingress : ingress_left l.world ≡ ingress_left l.fn.world;
}

abbrev pub decreases-loop-world : goal.decreases-loop-world
decreases-loop-world l = work_left l.world 0
