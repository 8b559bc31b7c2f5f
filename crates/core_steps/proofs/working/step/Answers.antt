use Rattle.std.proofs.Common.{List, ap, refl, sym, ◌∙◌}
use Rattle.events.specs.declared.job.Job.{Job}
use Rattle.legs.specs.declared.leg.LegState.{LegState}
use Rattle.core_steps.specs.Machine.{setup_of, worker_state, hand_in}
use Rattle.desk_calls.specs.Notification.{pending_with}
use Rattle.core_steps.specs.World.{free, WorkerState}
use Rattle.core_steps.proofs.WorkingLemmas.{idle-steps, taking-steps, telling-steps, nobody-steps, forwarding-steps, asked-steps}
use Rattle.core_steps.proofs.working.step.Goals as goal

pub returns-in_ok-notify-in-Telling-clause-ok : goal.returns-in_ok-notify-in-Telling-clause-ok
returns-in_ok-notify-in-Telling-clause-ok c =
    telling-steps (setup_of c.args.setup.now) c.args.rows.now c.args.desks.now (worker_state c.args.w.now) _ c.args.outs.now.items
    c.notify.new.outs.items (pending_with c.args.w.now.effect c.in-Telling.notification) (ap (hand_in c.args.w.now.effect) c.in-Telling.is)
    refl c.in_ok-notify-in-Telling.ensures.ok

pub returns-in-Desk-clause-ok : goal.returns-in-Desk-clause-ok
returns-in-Desk-clause-ok c =
    asked-steps (setup_of c.args.setup.now) c.args.rows.now c.args.desks.now c.ask_desk.new.desks (worker_state c.args.w.now)
    (worker_state c.ask_desk.new.w) c.args.outs.now.items c.ask_desk.new.outs.items c.in-Doing.job c.in-Desk.question (ap (hand_in c.args.w.now.effect) c.in-Doing.is) c.in-Desk.ensures.value c.ask_desk.ensures

pub returns-in-Nobody-clause-ok : goal.returns-in-Nobody-clause-ok
returns-in-Nobody-clause-ok c =
    nobody-steps (setup_of c.args.setup.now) c.args.rows.now c.args.desks.now (worker_state c.args.w.now) _ c.args.outs.now.items
    c.args.outs.now.items c.in-Doing.job (ap (hand_in c.args.w.now.effect) c.in-Doing.is) c.in-Nobody.ensures.value refl refl

abbrev with_legs : WorkerState → List LegState → WorkerState
with_legs s legs = record s { hand = free; legs = legs }

pub returns-in_ok-do_job-in-Legs-clause-ok : goal.returns-in_ok-do_job-in-Legs-clause-ok
returns-in_ok-do_job-in-Legs-clause-ok c =
    forwarding-steps (setup_of c.args.setup.now) c.args.rows.now c.args.desks.now (worker_state c.args.w.now) _ c.args.outs.now.items
    c.do_job.new.outs.items c.in-Doing.job (ap (hand_in c.args.w.now.effect) c.in-Doing.is) c.in-Legs.ensures.value
    (ap (with_legs (worker_state c.args.w.now)) c.in_ok-do_job-in-Legs.ensures.legs)
    c.in_ok-do_job-in-Legs.ensures.outs

pub returns-in-Some-clause-ok : goal.returns-in-Some-clause-ok
returns-in-Some-clause-ok c =
    taking-steps (setup_of c.args.setup.now) c.args.rows.now c.args.desks.now (worker_state c.args.w.now) _ c.args.outs.now.items
    c.args.outs.now.items c.in-Some.job c.pop.new.self (ap (hand_in c.args.w.now.effect) c.in-Free.is) c.in-Some.ensures refl refl

abbrev with_jobs : WorkerState → List Job → WorkerState
with_jobs s jobs = record s { jobs = jobs }

pub returns-in-None-clause-ok : goal.returns-in-None-clause-ok
returns-in-None-clause-ok c =
    idle-steps (setup_of c.args.setup.now) c.args.rows.now c.args.desks.now (worker_state c.args.w.now) _ c.args.outs.now.items
    c.push_reserved.new.self.items (ap (hand_in c.args.w.now.effect) c.in-Free.is) c.in-None.ensures.0
    (ap (with_jobs (worker_state c.args.w.now)) (c.in-None.ensures.1 ∙ sym c.in-None.ensures.0)) c.push_reserved.ensures.items
