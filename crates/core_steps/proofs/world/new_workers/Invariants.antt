use Rattle.std.proofs.Common.{map}
use Rattle.core_steps.specs.Machine.{worker_state}
use Rattle.core_steps.specs.Opening.{AreNewWorkers}
use Rattle.core_steps.proofs.world.new_workers.Given as goal

abbrev pub invariant-loop-number : goal.invariant-loop-number
invariant-loop-number l = AreNewWorkers l.settings l.number (map worker_state l.workers.items)
