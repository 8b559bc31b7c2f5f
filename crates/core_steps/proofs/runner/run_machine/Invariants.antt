use Rattle.std.proofs.Common.{take}
use Rattle.core_steps.specs.Machine.{state_of}
use Rattle.core_steps.specs.Run.{HasRun}
use Rattle.core_steps.proofs.runner.run_machine.Given as goal

abbrev pub invariant-loop-done : goal.invariant-loop-done
invariant-loop-done l =
    HasRun (take l.done l.events) (state_of l.initial.m) l.initial.outs.items (state_of l.m) l.outs.items
