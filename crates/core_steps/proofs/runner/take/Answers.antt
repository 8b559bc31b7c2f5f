use Rattle.std.proofs.Common.{List, [], ◌∷◌, subst}
use Rattle.std.proofs.lemmas.Result.{on_ok_weaker}
use Rattle.std.specs.Prelude.{ℕ}
use Rattle.std.specs.Result.{OnOk}
use Rattle.datagram.specs.Reads.{admission_of}
use Rattle.events.specs.declared.event.Event.{Event}
use Rattle.events.specs.declared.event.Event.TheVariants.{Hear}
use Rattle.core_steps.specs.Hearing.{SaysTaken}
use Rattle.core_steps.specs.Machine.{state_of}
use Rattle.core_steps.specs.OverRuns.{AnnouncesOverRuns, EndsStaysOverRuns}
use Rattle.core_steps.specs.Quiet.{ObeysQuietLaw}
use Rattle.core_steps.specs.Run.{HasRun}
use Rattle.core_steps.specs.World.{WorldState}
use Rattle.core_steps.proofs.OverRunsLemmas.{announces_over_runs, ends_over_runs}
use Rattle.core_steps.proofs.QuietLemmas.{obeys}
use Rattle.core_steps.proofs.RunLemmas.{HasRun-one}
use Rattle.core_steps.proofs.runner.take.Goals as goal

-- what was done is a run of the datagram's event
pub returns-clause-ok : goal.returns-clause-ok
returns-clause-ok c =
    subst (λ (x : WorldState). (bytes : List ℕ) → SaysTaken x (admission_of c.args.taking) bytes
    → OnOk c.take_or_busy.result (HasRun (Hear c.args.moment c.args.taking.endpoint bytes ∷ []) x c.args.outs.now.items
    (state_of c.take_or_busy.new.m) c.take_or_busy.new.outs.items)) c.world.view_is
    (λ bytes says. on_ok_weaker c.take_or_busy.result (λ did. HasRun-one (Hear c.args.moment c.args.taking.endpoint bytes)
    (state_of c.world.inside.machine) c.args.outs.now.items (state_of c.take_or_busy.new.m) c.take_or_busy.new.outs.items did)
    (c.take_or_busy.ensures.ok bytes says))

pub returns-clause-announced : goal.returns-clause-announced
returns-clause-announced c =
    subst (λ (x : WorldState). (bytes : List ℕ) → SaysTaken x (admission_of c.args.taking) bytes
    → OnOk c.take_or_busy.result (AnnouncesOverRuns (Hear c.args.moment c.args.taking.endpoint bytes ∷ []) x c.args.outs.now.items
    (state_of c.take_or_busy.new.m) c.take_or_busy.new.outs.items)) c.world.view_is
    (λ bytes says. let event : Event = Hear c.args.moment c.args.taking.endpoint bytes in
    on_ok_weaker c.take_or_busy.result (λ did. announces_over_runs (event ∷ []) (state_of c.world.inside.machine) c.args.outs.now.items
    (state_of c.take_or_busy.new.m) c.take_or_busy.new.outs.items
    (HasRun-one event (state_of c.world.inside.machine) c.args.outs.now.items (state_of c.take_or_busy.new.m) c.take_or_busy.new.outs.items did))
    (c.take_or_busy.ensures.ok bytes says))

pub returns-clause-ended : goal.returns-clause-ended
returns-clause-ended c =
    subst (λ (x : WorldState). (bytes : List ℕ) → SaysTaken x (admission_of c.args.taking) bytes
    → OnOk c.take_or_busy.result (EndsStaysOverRuns (Hear c.args.moment c.args.taking.endpoint bytes ∷ []) x c.args.outs.now.items
    (state_of c.take_or_busy.new.m) c.take_or_busy.new.outs.items)) c.world.view_is
    (λ bytes says. let event : Event = Hear c.args.moment c.args.taking.endpoint bytes in
    on_ok_weaker c.take_or_busy.result (λ did. ends_over_runs (event ∷ []) (state_of c.world.inside.machine) c.args.outs.now.items
    (state_of c.take_or_busy.new.m) c.take_or_busy.new.outs.items
    (HasRun-one event (state_of c.world.inside.machine) c.args.outs.now.items (state_of c.take_or_busy.new.m) c.take_or_busy.new.outs.items did))
    (c.take_or_busy.ensures.ok bytes says))

pub returns-clause-quiet : goal.returns-clause-quiet
returns-clause-quiet c =
    subst (λ (x : WorldState). (bytes : List ℕ) → SaysTaken x (admission_of c.args.taking) bytes
    → OnOk c.take_or_busy.result (ObeysQuietLaw (Hear c.args.moment c.args.taking.endpoint bytes ∷ []) x (state_of c.take_or_busy.new.m)))
    c.world.view_is
    (λ bytes says. let event : Event = Hear c.args.moment c.args.taking.endpoint bytes in
    on_ok_weaker c.take_or_busy.result (λ did. obeys (event ∷ []) (state_of c.world.inside.machine) c.args.outs.now.items
    (state_of c.take_or_busy.new.m) c.take_or_busy.new.outs.items
    (HasRun-one event (state_of c.world.inside.machine) c.args.outs.now.items (state_of c.take_or_busy.new.m) c.take_or_busy.new.outs.items did))
    (c.take_or_busy.ensures.ok bytes says))
