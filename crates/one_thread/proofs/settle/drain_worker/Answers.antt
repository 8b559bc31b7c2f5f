use Rattle.std.proofs.Common.{[], ◌∙◌, refl, sym}
use Rattle.events.specs.declared.event.Event.TheVariants.{Work}
use Rattle.core_steps.proofs.SettleLemmas.{work_falls}
use Rattle.one_thread.proofs.DrivingLemmas.{drives_nothing, drives_on, drives_work, same_count, work_leaves_ingress}
use Rattle.one_thread.proofs.settle.drain_worker.Goals as goal

pub loop-world-init : goal.loop-world-init
loop-world-init c = record { drives = drives_nothing c.args.world.now c.args.outs.now.items; one = c.requires.one; ingress = refl }

pub loop-world-preserved : goal.loop-world-preserved
loop-world-preserved c =
    let run = c.in_ok-step.ensures.ok in record {
      drives = drives_on [] [] c.args.world.now c.loop-world.world c.step.new.world c.args.outs.now.items c.loop-world.outs.items
          c.step.new.outs.items c.loop-world.invariant.drives
          (drives_work c.loop-world.world c.step.new.world c.loop-world.outs.items c.step.new.outs.items run);
      one = same_count c.loop-world.world (Work 0) c.step.new.world c.loop-world.outs.items c.step.new.outs.items run
          ∙ c.loop-world.invariant.one;
      ingress = work_leaves_ingress c.loop-world.world c.step.new.world c.loop-world.outs.items c.step.new.outs.items run
          ∙ c.loop-world.invariant.ingress;
    }

pub loop-world-smaller : goal.loop-world-smaller
loop-world-smaller c =
    work_falls c.loop-world.world 0 c.step.new.world c.loop-world.outs.items c.step.new.outs.items
    (sym c.has_work.ensures ∙ c.loop-world-test.true) c.in_ok-step.ensures.ok
