use Rattle.std.proofs.Common.{[], ◌∙◌, sym}
use Rattle.events.specs.declared.event.Event.TheVariants.{Work}
use Rattle.core_steps.specs.Waits.{has_work}
use Rattle.core_steps.specs.World.{WorldState}
use Rattle.core_steps.proofs.SettleLemmas.{work_falls}
use Rattle.replay.proofs.ReplayLemmas.{drains_on, is_drained, work_keeps_ingress}
use Rattle.replay.proofs.replay.drain_worker.Goals as goal

pub loop-world-preserved : goal.loop-world-preserved
loop-world-preserved c =
    let done = c.in_ok-step.ensures.done in record {
      desks = c.in_ok-step.ensures.desks ∙ c.loop-world.invariant.desks;
      drained = drains_on (λ (w : WorldState). has_work w c.args.worker) (Work c.args.worker) c.args.world.now c.loop-world.world
          c.step.new.world c.args.outs.now.items c.loop-world.outs.items c.step.new.outs.items done.0
          (sym c.has_work.ensures ∙ c.loop-world-test.true) c.loop-world.invariant.drained done.1 done.2;
      ingress = work_keeps_ingress c.args.worker c.loop-world.world c.step.new.world [] done.0 done.1 ∙ c.loop-world.invariant.ingress;
    }

pub returns-clause-drained : goal.returns-clause-drained
returns-clause-drained c =
    is_drained (λ (w : WorldState). has_work w c.args.worker) (Work c.args.worker) c.args.world.now c.loop-world.world
    c.args.outs.now.items c.loop-world.outs.items (sym c.has_work.ensures ∙ c.loop-world-test.false) c.loop-world.invariant.drained

pub loop-world-smaller : goal.loop-world-smaller
loop-world-smaller c =
    work_falls c.loop-world.world c.args.worker c.step.new.world [] c.in_ok-step.ensures.done.0 (sym c.has_work.ensures ∙ c.loop-world-test.true)
    c.in_ok-step.ensures.done.1
