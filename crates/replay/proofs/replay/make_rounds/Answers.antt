use Rattle.std.proofs.Common.{◌<◌, ℕ, [], ◌∙◌, sym, subst}
use Rattle.core_steps.specs.Settling.{ingress_left}
use Rattle.core_steps.proofs.SettleLemmas.{ingress_falls}
use Rattle.replay.proofs.ReplayLemmas.{rounds_on, rounds_over}
use Rattle.replay.proofs.replay.make_rounds.Goals as goal

pub loop-world-preserved : goal.loop-world-preserved
loop-world-preserved c =
    let done = c.in_ok-step.ensures.done in
    let drained = c.in_ok-drain_workers.ensures.drained in record {
      desks = c.in_ok-drain_workers.ensures.desks ∙ (c.in_ok-step.ensures.desks ∙ c.loop-world.invariant.desks);
      made = rounds_on c.args.workers c.args.world.now c.loop-world.world c.step.new.world c.drain_workers.new.world
          c.args.outs.now.items c.loop-world.outs.items c.step.new.outs.items c.drain_workers.new.outs.items
          done.0 drained.0 (sym c.is_busy.ensures ∙ c.loop-world-test.true) c.loop-world.invariant.made done.1 done.2 drained.1 drained.2;
    }

pub returns-clause-made : goal.returns-clause-made
returns-clause-made c =
    rounds_over c.args.workers c.args.world.now c.loop-world.world c.args.outs.now.items c.loop-world.outs.items
    (sym c.is_busy.ensures ∙ c.loop-world-test.false) c.loop-world.invariant.made

pub loop-world-smaller : goal.loop-world-smaller
loop-world-smaller c =
    let done = c.in_ok-step.ensures.done in
    subst (λ (n : ℕ). n < ingress_left c.loop-world.world) (sym c.in_ok-drain_workers.ensures.ingress)
    (ingress_falls c.loop-world.world c.step.new.world [] done.0 (sym c.is_busy.ensures ∙ c.loop-world-test.true) done.1)
