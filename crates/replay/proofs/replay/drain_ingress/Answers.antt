use Rattle.std.proofs.Common.{[], ◌∙◌, sym}
use Rattle.events.specs.declared.event.Event.TheVariants.{Ingress}
use Rattle.core_steps.specs.Rule.{is_busy}
use Rattle.core_steps.proofs.SettleLemmas.{ingress_falls}
use Rattle.replay.proofs.ReplayLemmas.{drains_on, is_drained}
use Rattle.replay.proofs.replay.drain_ingress.Goals as goal

pub loop-world-preserved : goal.loop-world-preserved
loop-world-preserved c =
    let done = c.in_ok-step.ensures.done in record {
      desks = c.in_ok-step.ensures.desks ∙ c.loop-world.invariant.desks;
      drained = drains_on is_busy Ingress c.args.world.now c.loop-world.world c.step.new.world c.args.outs.now.items
          c.loop-world.outs.items c.step.new.outs.items done.0 (sym c.is_busy.ensures ∙ c.loop-world-test.true)
          c.loop-world.invariant.drained done.1 done.2;
    }

pub returns-clause-drained : goal.returns-clause-drained
returns-clause-drained c =
    is_drained is_busy Ingress c.args.world.now c.loop-world.world c.args.outs.now.items c.loop-world.outs.items
    (sym c.is_busy.ensures ∙ c.loop-world-test.false) c.loop-world.invariant.drained

pub loop-world-smaller : goal.loop-world-smaller
loop-world-smaller c =
    let done = c.in_ok-step.ensures.done in
    ingress_falls c.loop-world.world c.step.new.world [] done.0 (sym c.is_busy.ensures ∙ c.loop-world-test.true) done.1
