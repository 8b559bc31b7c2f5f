-- Runs: events one after the other, and what they did.
use Rattle.std.specs.Prelude.{◌≡◌, List, [], ◌∷◌, ◌++◌, fold}
use Rattle.std.specs.List.{flat_map}
use Rattle.events.specs.declared.event.Event.{Event}
use Rattle.events.specs.declared.output.Out.{Out}
use Rattle.core_steps.specs.World.{WorldState}
use Rattle.core_steps.specs.Happening.{Happening, world_after}
use Rattle.core_steps.specs.Rule.{Does}

-- each event did what it may do in the world after those before it
abbrev pub Runs : WorldState → List Event → List Happening → Type 0
Runs w [] [] = Unit {0}
Runs w [] (h ∷ history) = ⊥
Runs w (e ∷ events) [] = ⊥
Runs w (e ∷ events) (h ∷ history) = Does w e h × Runs (world_after w h) events history

-- the world after a history
abbrev pub worlds_after : WorldState → List Happening → WorldState
worlds_after w history = fold world_after w history

-- what a history gave out, in order
abbrev pub outs_of : List Happening → List Out
outs_of history = flat_map (λ (h : Happening). h.outs) history

-- There is a history of these events, a happening for each, that leads from the old world to the new one, and what it gave
-- out stands after what was there.
pub record HasRun (events : List Event) (old : WorldState) (outs : List Out) (new : WorldState)
    (all : List Out) : Type 0 where
  pub history : List Happening
  pub runs : Runs old events history
  pub leads : new ≡ worlds_after old history
  pub given : all ≡ outs ++ outs_of history

-- Something that this allows was done: it leads from the old world to the new one, and what it gave out stands after what was
-- there.
pub record Leaves (P : Happening → Type 0) (old : WorldState) (outs : List Out) (new : WorldState)
    (all : List Out) : Type 0 where
  pub happening : Happening
  pub allowed : P happening
  pub leads : new ≡ world_after old happening
  pub given : all ≡ outs ++ happening.outs

-- nothing was done, and nothing given out
abbrev pub Stays : WorldState → List Out → WorldState → List Out → Type 0
Stays old outs new all = (new ≡ old) × (all ≡ outs)
