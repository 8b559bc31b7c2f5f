use Rattle.std.proofs.Common.{sym, subst}
use Rattle.core_steps.specs.declared.tasks.FollowUp.{FollowUp}
use Rattle.core_steps.specs.Machine.{state_of, task_of}
use Rattle.core_steps.specs.Rule.{DoesTask}
use Rattle.core_steps.specs.Run.{Leaves}
use Rattle.core_steps.specs.World.{pulse, expire}
use Rattle.core_steps.proofs.ingress.do_follow_up.Goals as goal

pub returns-in-Pulse-clause-ok : goal.returns-in-Pulse-clause-ok
returns-in-Pulse-clause-ok c =
    let w = state_of c.args.m.now in
    let P : FollowUp → Type 0 = λ n. Leaves (DoesTask w (task_of c.args.m.now.front.tasks.datagram n)) w c.args.outs.now.items (state_of c.signal.new.m) c.signal.new.outs.items in
    subst P (sym c.in-Pulse.is) (c.signal.ensures (pulse c.in-Pulse.publisher))

pub returns-in-Expire-clause-ok : goal.returns-in-Expire-clause-ok
returns-in-Expire-clause-ok c =
    let w = state_of c.args.m.now in
    let P : FollowUp → Type 0 = λ n. Leaves (DoesTask w (task_of c.args.m.now.front.tasks.datagram n)) w c.args.outs.now.items (state_of c.signal-in-Expire.new.m) c.signal-in-Expire.new.outs.items in
    subst P (sym c.in-Expire.is) (c.signal-in-Expire.ensures (expire c.in-Expire.publisher))
