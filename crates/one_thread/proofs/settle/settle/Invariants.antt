use Rattle.std.proofs.Common.{◌≡◌, [], length, false}
use Rattle.core_steps.specs.Settling.{ingress_left}
use Rattle.core_steps.specs.Waits.{has_work}
use Rattle.one_thread.specs.Driving.{Drives}
use Rattle.one_thread.proofs.settle.settle.Given as goal

abbrev pub invariant-loop-world : goal.invariant-loop-world
invariant-loop-world l = record {
  drives : Drives [] l.fn.world l.fn.outs.items l.world l.outs.items;
  one : length l.world.workers ≡ 1;
  drained : has_work l.world 0 ≡ false;
}

abbrev pub decreases-loop-world : goal.decreases-loop-world
decreases-loop-world l = ingress_left l.world
