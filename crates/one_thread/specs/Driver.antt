-- What a run of the unit in one thread did, and how it ended.
use Rattle.std.specs.Prelude.{◌≡◌, ◌⊎◌, ℕ, ◌<◌, List, [], ◌++◌}
use Rattle.std.specs.List.{flat_map}
use Rattle.settings.specs.Settings.{Configuration}
use Rattle.ports.specs.declared.source.TheConstants.{MAX_FAULTS}
use Rattle.ports.specs.Ticks.{TicksState, new_ticks}
use Rattle.events.specs.declared.event.Event.{Event}
use Rattle.core_steps.specs.Happening.{Happening}
use Rattle.core_steps.specs.Opening.{IsNewWorld}
use Rattle.core_steps.specs.OverRuns.{Announces, EndsStays}
use Rattle.core_steps.specs.Quiet.{HeardIn, HeardRate, LastHeardIsLive}
use Rattle.core_steps.specs.Run.{worlds_after}
use Rattle.core_steps.specs.World.{WorldState}
use Rattle.one_thread.specs.declared.driver.DriveFault.{DriveFault}
use Rattle.one_thread.specs.declared.driver.DriveFault.TheVariants.{NoMemory, Receive}
use Rattle.one_thread.specs.declared.driver.Report.{Report}
use Rattle.one_thread.specs.declared.tally.Tally.{Tally}
use Rattle.one_thread.specs.Driving.{IsIdle}
use Rattle.one_thread.specs.Turns.{BreaksOff, EndsInTime, GoesOn, MakesTurns, NeverStops, OutsideView, Turn, faults_over, ticks_over}

-- it is so after the run, and was so after each event of it
abbrev pub AfterEach : (List Happening → WorldState → Type 0) → WorldState → List Happening → Type 0
AfterEach P start history =
    (first rest : List Happening) → history ≡ first ++ rest → P first (worlds_after start first)

-- What was heard in the run; and as long as no desk's history was full, what was heard last is live.
pub record LeavesLastHeard (c : Configuration) (start : WorldState) (events : List Event)
    (history : List Happening) (w : WorldState) : Type 0 where
  pub rates : List HeardRate
  pub heard : HeardIn start events history rates
  pub live : flat_map (λ (h : Happening). h.unrecorded) history ≡ []
      → LastHeardIsLive c history rates w

-- So many turns were made from the new world of these settings, or fewer if a stop came in the last of them; and never did too many
-- receives in a row fail. Nothing waits in the end. What each desk announces, what is told of it, the stays that ended, and what is live are as the machine's laws say.
pub record HasDriven (c : Configuration) (tick_ms count : ℕ) (before after : OutsideView)
    (report : Report) : Type 0 where
  pub start : WorldState
  pub final : WorldState
  pub turns : List Turn
  pub tally : Tally
  pub opens : IsNewWorld c start
  pub in_time : EndsInTime count turns
  pub goes_on : GoesOn 0 turns
  pub few : faults_over 0 turns < MAX_FAULTS
  pub made : MakesTurns (new_ticks tick_ms) turns start final before after tally
  pub idle : IsIdle final
  pub lost : final.lost ≡ 0
  pub announces : AfterEach (Announces c) start made.drives.run.history
  pub ends : AfterEach (EndsStays c) start made.drives.run.history
  pub quiet : LeavesLastHeard c start made.drives.events made.drives.run.history final
  pub counts : report.counts ≡ tally
  pub desks : report.desks.items ≡ final.desks

-- Turns were made from this world, in which no stop came, and there was no memory in the one after them.
pub record StopsIn (start : WorldState) (ticks : TicksState) (before after : OutsideView) : Type 0
  where
    pub turns : List Turn
    pub at : WorldState
    pub between : OutsideView
    pub tally : Tally
    pub on : NeverStops turns
    pub goes_on : GoesOn 0 turns
    pub few : faults_over 0 turns < MAX_FAULTS
    pub made : MakesTurns ticks turns start at before between tally
    pub breaks : BreaksOff (ticks_over ticks turns) at between after

-- Turns were made from this world, in which no stop came, and with the last of them as many receives in a row had failed as end a run.
pub record FailsToReceive (start : WorldState) (ticks : TicksState)
    (before after : OutsideView) : Type 0 where
  pub turns : List Turn
  pub final : WorldState
  pub tally : Tally
  pub on : NeverStops turns
  pub goes_on : GoesOn 0 turns
  pub many : faults_over 0 turns ≡ MAX_FAULTS
  pub made : MakesTurns ticks turns start final before after tally

abbrev pub StopsEarly : WorldState → TicksState → OutsideView → OutsideView → DriveFault → Type 0
StopsEarly start ticks before after NoMemory = StopsIn start ticks before after
StopsEarly start ticks before after Receive = FailsToReceive start ticks before after

-- There was no memory for a world, and nothing was received; or the run stopped early from a new one.
abbrev pub EndsEarly : Configuration → ℕ → OutsideView → OutsideView → DriveFault → Type 0
EndsEarly c tick_ms before after fault =
    ((fault ≡ NoMemory) × (after ≡ before))
    ⊎ ((start : WorldState) × IsNewWorld c start
    × StopsEarly start (new_ticks tick_ms) before after fault)
