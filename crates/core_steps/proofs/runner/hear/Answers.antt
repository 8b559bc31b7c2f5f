use Rattle.std.proofs.Common.{[], ◌∷◌, subst}
use Rattle.std.proofs.lemmas.Result.{on_ok_weaker}
use Rattle.std.specs.Result.{OnOk}
use Rattle.events.specs.declared.event.Event.{Event}
use Rattle.events.specs.declared.event.Event.TheVariants.{Hear}
use Rattle.core_steps.specs.Machine.{state_of}
use Rattle.core_steps.specs.OverRuns.{AnnouncesOverRuns, EndsStaysOverRuns}
use Rattle.core_steps.specs.Quiet.{ObeysQuietLaw}
use Rattle.core_steps.specs.Run.{HasRun}
use Rattle.core_steps.specs.World.{WorldState}
use Rattle.core_steps.proofs.OverRunsLemmas.{announces_over_runs, ends_over_runs}
use Rattle.core_steps.proofs.QuietLemmas.{obeys}
use Rattle.core_steps.proofs.RunLemmas.{HasRun-one}
use Rattle.core_steps.proofs.runner.hear.Goals as goal

pub returns-clause-ok : goal.returns-clause-ok
returns-clause-ok c =
    let event : Event = Hear c.args.moment c.args.endpoint c.args.bytes.now in
    subst (λ (x : WorldState). OnOk c.hear_or_busy.result (HasRun (event ∷ []) x c.args.outs.now.items (state_of c.hear_or_busy.new.m)
    c.hear_or_busy.new.outs.items)) c.world.view_is
    (on_ok_weaker c.hear_or_busy.result (λ did. HasRun-one event (state_of c.world.inside.machine) c.args.outs.now.items (state_of c.hear_or_busy.new.m)
    c.hear_or_busy.new.outs.items did) c.hear_or_busy.ensures.ok)

pub returns-clause-announced : goal.returns-clause-announced
returns-clause-announced c =
    let event : Event = Hear c.args.moment c.args.endpoint c.args.bytes.now in
    subst (λ (x : WorldState). OnOk c.hear_or_busy.result (AnnouncesOverRuns (event ∷ []) x c.args.outs.now.items (state_of c.hear_or_busy.new.m)
    c.hear_or_busy.new.outs.items)) c.world.view_is
    (on_ok_weaker c.hear_or_busy.result (λ did. announces_over_runs (event ∷ []) (state_of c.world.inside.machine) c.args.outs.now.items (state_of c.hear_or_busy.new.m)
    c.hear_or_busy.new.outs.items
    (HasRun-one event (state_of c.world.inside.machine) c.args.outs.now.items (state_of c.hear_or_busy.new.m)
    c.hear_or_busy.new.outs.items did)) c.hear_or_busy.ensures.ok)

pub returns-clause-ended : goal.returns-clause-ended
returns-clause-ended c =
    let event : Event = Hear c.args.moment c.args.endpoint c.args.bytes.now in
    subst (λ (x : WorldState). OnOk c.hear_or_busy.result (EndsStaysOverRuns (event ∷ []) x c.args.outs.now.items (state_of c.hear_or_busy.new.m)
    c.hear_or_busy.new.outs.items)) c.world.view_is
    (on_ok_weaker c.hear_or_busy.result (λ did. ends_over_runs (event ∷ []) (state_of c.world.inside.machine) c.args.outs.now.items (state_of c.hear_or_busy.new.m)
    c.hear_or_busy.new.outs.items
    (HasRun-one event (state_of c.world.inside.machine) c.args.outs.now.items (state_of c.hear_or_busy.new.m)
    c.hear_or_busy.new.outs.items did)) c.hear_or_busy.ensures.ok)

pub returns-clause-quiet : goal.returns-clause-quiet
returns-clause-quiet c =
    let event : Event = Hear c.args.moment c.args.endpoint c.args.bytes.now in
    subst (λ (x : WorldState). OnOk c.hear_or_busy.result (ObeysQuietLaw (event ∷ []) x (state_of c.hear_or_busy.new.m))) c.world.view_is
    (on_ok_weaker c.hear_or_busy.result (λ did. obeys (event ∷ []) (state_of c.world.inside.machine) c.args.outs.now.items (state_of c.hear_or_busy.new.m)
    c.hear_or_busy.new.outs.items
    (HasRun-one event (state_of c.world.inside.machine) c.args.outs.now.items (state_of c.hear_or_busy.new.m)
    c.hear_or_busy.new.outs.items did)) c.hear_or_busy.ensures.ok)
