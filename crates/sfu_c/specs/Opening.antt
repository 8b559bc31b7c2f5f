-- What is answered if a conference isn't opened.
use Rattle.std.specs.Prelude.{◌≡◌, ℕ, List, Option, Some}
use Rattle.settings_toml.specs.declared.settings_file.SettingsProblem.{SettingsProblem}
use Rattle.settings_toml.specs.declared.settings_file.SettingsProblem.TheVariants.{Toml, Top, Endpoint, Leg, SameSsrc}
use Rattle.settings_toml.specs.declared.settings_file.SettingsProblem.TheVariants as problem
use Rattle.conference.specs.declared.fault.OpenFault.{OpenFault}
use Rattle.conference.specs.declared.fault.OpenFault.TheVariants.{NoMemory, Settings, Workers}
use Rattle.conference.specs.Conference.{ConferenceState, OpensBy, RefusesToOpen}
use Rattle.sfu_c.specs.declared.faults.TheConstants.{NO_MEMORY, NOT_TOML, BAD_KEY, BAD_ENDPOINT, BAD_LEG, SAME_SSRC, WORKERS}
use Rattle.sfu_c.specs.declared.numbers.SfuOpened.{SfuOpened}

-- the answer for what is said against a settings text; a text is no file that can't be read
abbrev pub problem_answer : SettingsProblem → SfuOpened
problem_answer problem.NoMemory = record { fault = NO_MEMORY; number = 0 }
problem_answer problem.File = record { fault = NOT_TOML; number = 0 }
problem_answer Toml = record { fault = NOT_TOML; number = 0 }
problem_answer (Top key) = record { fault = BAD_KEY; number = 0 }
problem_answer (Endpoint number key) = record { fault = BAD_ENDPOINT; number = number }
problem_answer (Leg number key) = record { fault = BAD_LEG; number = number }
problem_answer SameSsrc = record { fault = SAME_SSRC; number = 0 }

-- the answer for why a conference isn't opened
abbrev pub open_answer : OpenFault → SfuOpened
open_answer NoMemory = record { fault = NO_MEMORY; number = 0 }
open_answer (Settings p) = problem_answer p
open_answer (Workers count) = record { fault = WORKERS; number = count }

-- the answer tells why no conference is opened by the text
pub record TellsRefusal (text : List ℕ) (answer : SfuOpened) : Type 0 where
  pub fault : OpenFault
  pub refuses : RefusesToOpen text fault
  pub told : answer ≡ open_answer fault

-- the slot holds a conference, which the text opens
pub record OpensIn (text : List ℕ) (held : Option ConferenceState) : Type 0 where
  pub conference : ConferenceState
  pub holds : held ≡ Some conference
  pub opens : OpensBy text conference
