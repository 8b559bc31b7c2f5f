use Rattle.std.proofs.Common.{subst}
use Rattle.core_steps.specs.Machine.{state_of}
use Rattle.core_steps.specs.OverRuns.{AnnouncesOverRuns, EndsStaysOverRuns, events_done}
use Rattle.core_steps.specs.Quiet.{ObeysQuietLaw}
use Rattle.core_steps.specs.World.{WorldState}
use Rattle.core_steps.proofs.OverRunsLemmas.{has_run, announces_over_runs, ends_over_runs}
use Rattle.core_steps.proofs.QuietLemmas.{obeys}
use Rattle.core_steps.proofs.runner.run.Goals as goal

pub returns-clause-announced : goal.returns-clause-announced
returns-clause-announced c =
    subst (λ (x : WorldState). AnnouncesOverRuns (events_done c.run_machine.result c.args.events.now) x c.args.outs.now.items
    (state_of c.run_machine.new.m) c.run_machine.new.outs.items) c.world.view_is
    (announces_over_runs (events_done c.run_machine.result c.args.events.now) (state_of c.world.inside.machine) c.args.outs.now.items
    (state_of c.run_machine.new.m) c.run_machine.new.outs.items
    (has_run c.run_machine.result c.args.events.now (state_of c.world.inside.machine) c.args.outs.now.items
    (state_of c.run_machine.new.m) c.run_machine.new.outs.items c.run_machine.ensures.ok c.run_machine.ensures.err))

pub returns-clause-ended : goal.returns-clause-ended
returns-clause-ended c =
    subst (λ (x : WorldState). EndsStaysOverRuns (events_done c.run_machine.result c.args.events.now) x c.args.outs.now.items
    (state_of c.run_machine.new.m) c.run_machine.new.outs.items) c.world.view_is
    (ends_over_runs (events_done c.run_machine.result c.args.events.now) (state_of c.world.inside.machine) c.args.outs.now.items
    (state_of c.run_machine.new.m) c.run_machine.new.outs.items
    (has_run c.run_machine.result c.args.events.now (state_of c.world.inside.machine) c.args.outs.now.items
    (state_of c.run_machine.new.m) c.run_machine.new.outs.items c.run_machine.ensures.ok c.run_machine.ensures.err))

pub returns-clause-quiet : goal.returns-clause-quiet
returns-clause-quiet c =
    subst (λ (x : WorldState). ObeysQuietLaw (events_done c.run_machine.result c.args.events.now) x (state_of c.run_machine.new.m)) c.world.view_is
    (obeys (events_done c.run_machine.result c.args.events.now) (state_of c.world.inside.machine) c.args.outs.now.items
    (state_of c.run_machine.new.m) c.run_machine.new.outs.items
    (has_run c.run_machine.result c.args.events.now (state_of c.world.inside.machine) c.args.outs.now.items
    (state_of c.run_machine.new.m) c.run_machine.new.outs.items c.run_machine.ensures.ok c.run_machine.ensures.err))
