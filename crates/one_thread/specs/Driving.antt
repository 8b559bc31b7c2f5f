-- What one thread does of a machine: events from outside, each of which finds nothing waiting, and all that follows from them.
use Rattle.std.specs.Prelude.{◌≡◌, ℕ, Bool, true, false, List, [], ◌∷◌, ◌++◌, filter, take}
use Rattle.std.specs.List.{flat_map}
use Rattle.events.specs.declared.event.Event.{Event}
use Rattle.events.specs.declared.event.Event.TheVariants.{Hear, Tick, Select, Ingress, Work}
use Rattle.events.specs.declared.output.Out.{Out}
use Rattle.core_steps.specs.Happening.{Happening, GivenUp, world_after}
use Rattle.core_steps.specs.Run.{HasRun}
use Rattle.core_steps.specs.Waits.{waiting_in}
use Rattle.core_steps.specs.World.{WorldState}

-- an event comes from outside, or is a step of what waits
abbrev pub is_from_outside : Event → Bool
is_from_outside (Hear moment endpoint bytes) = true
is_from_outside (Tick moment) = true
is_from_outside (Select moment leg on) = true
is_from_outside Ingress = false
is_from_outside (Work worker) = false

-- nothing waits
abbrev pub IsIdle : WorldState → Type 0
IsIdle w = waiting_in w ≡ record { tasks = 0; jobs = 0; hands = 0 }

-- each event from outside found nothing waiting
abbrev pub FindsNothing : WorldState → List Event → List Happening → Type 0
FindsNothing w [] history = Unit {0}
FindsNothing w (e ∷ events) [] = Unit {0}
FindsNothing w (e ∷ events) (h ∷ history) =
    (is_from_outside e ≡ true → IsIdle w) × FindsNothing (world_after w h) events history

-- the jobs that were given up, since their worker's ring was full
abbrev pub jobs_given_up : List Happening → List GivenUp
jobs_given_up history = flat_map (λ (h : Happening). h.given_up) history

-- Events were done that lead from the old world to the new one (RFC 7667, section 3.7). Those from outside are these, each of
-- which found nothing waiting; no job was given up; and what was given out stands after what was there.
pub record Drives (outside : List Event) (old : WorldState) (outs : List Out) (new : WorldState)
    (all : List Out) : Type 0 where
  pub events : List Event
  pub run : HasRun events old outs new all
  pub comes : filter is_from_outside events ≡ outside
  pub found : FindsNothing old events run.history
  pub kept : jobs_given_up run.history ≡ []

-- the first of these events from outside were done so, and others weren't begun (RFC 7667, section 3.7)
pub record DrivesSome (outside : List Event) (old : WorldState) (outs : List Out) (new : WorldState)
    (all : List Out) : Type 0 where
  pub done : List Event
  pub left : List Event
  pub both : done ++ left ≡ outside
  pub drives : Drives done old outs new all

-- events from outside were done so, and then others; so much of what was given out by then stood there before the others
pub record DrivesBoth (first second : List Event) (old : WorldState) (outs : List Out)
    (new : WorldState) (all : List Out) (count : ℕ) : Type 0 where
  pub between : WorldState
  pub before : Drives first old outs between (take count all)
  pub after : Drives second between (take count all) new all
