use Rattle.core_steps.specs.Machine.{state_of}
use Rattle.core_steps.proofs.RunLemmas.{step-more}
use Rattle.core_steps.proofs.runner.run_machine.Goals as goal

pub loop-done-preserved : goal.loop-done-preserved
loop-done-preserved c =
    step-more c.args.events.now c.loop-done.done c.index-events-done.result (state_of c.args.m.now) c.args.outs.now.items
    (state_of c.loop-done.m) c.loop-done.outs.items (state_of c.step.new.m) c.step.new.outs.items c.step.result c.is_err.result
    c.loop-done-test.true c.index-events-done.is c.is_err.ensures.value c.if-is_err.false c.loop-done.invariant c.step.ensures.ok
