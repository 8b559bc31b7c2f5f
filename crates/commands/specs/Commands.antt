-- What a command comes to that the words ask for: `input` is what there was to read, `old` and `new` what was printed before the command and
-- is after it, `errors_old` and `errors_new` what was said on the error output.
use Rattle.std.specs.Prelude.{◌≡◌, ◌≢◌, ℕ, List, Option, Some, codes}
use Rattle.std.specs.Io.KnownBytes.{Appends, Keeps}
use Rattle.cli.specs.CommandLine.{AsksOfUnit, Request, Types, ask, asked_for, bound, check, draw, page, plan, replay, sdp, serve, version}
use Rattle.cli.specs.declared.status.Status.{Status}
use Rattle.cli.specs.declared.status.Status.TheVariants as status
use Rattle.cli.specs.Statuses.{SaysWhy}
use Rattle.cli.specs.Ends.{EndsBound, EndsCheck, EndsDraw, EndsVersion}
use Rattle.replay.specs.ByFile.{EndsReplay, shown_by}
use Rattle.commands.specs.Numbers.{SaysOfNumbers}
use Rattle.commands.specs.Planned.{PrintsPlan}
use Rattle.serving.specs.ReportText.{PrintsReport}
use Rattle.serving.specs.Serving.{SaysWhyServing, turns_by}
use Rattle.settings.specs.Settings.{Configuration}
use Rattle.settings_toml.specs.SettingsText.{SaysProblem}

-- How `sfu serve` ends, with `--ticks N` or without.
pub record EndsUnit (ticks : Option ℕ) (old new errors_old errors_new : Option (List ℕ)) (s : Status)
    : Type 0 where
  -- if it is done, the report of so many turns of a unit with some settings, at some pace, is printed
  pub done : s ≡ status.Done
      → (c : Configuration) × (tick_ms : ℕ) × PrintsReport c tick_ms (turns_by ticks) old new
  -- if its socket or its threads failed, nothing is printed
  pub failed : s ≡ status.Socket → Keeps old new
  -- however it ends, where it listened is said, if it came so far, and after that what any other command says
  pub said : SaysWhyServing errors_old errors_new s

-- How `sfu serve` ends, with `--numbers PATH` or without.
pub record EndsNumbered (numbers : Option (List ℕ)) (ticks : Option ℕ)
    (old new errors_old errors_new : Option (List ℕ)) (s : Status) : Type 0 where
  -- what the error output has once the file of numbers was looked at
  pub said : Option (List ℕ)
  pub of_numbers : SaysOfNumbers numbers errors_old said
  -- after that a unit is served
  pub ends : EndsUnit ticks old new said errors_new s

-- How `sfu ask` ends.
pub record EndsAsk (old new errors_old errors_new : Option (List ℕ)) (s : Status) : Type 0 where
  -- if the unit refused it, nothing is printed
  pub refused : s ≡ status.Refused → Keeps old new
  -- if nobody listens at the path, nothing is printed, and that is said
  pub control : s ≡ status.Control
      → Keeps old new × Appends errors_old errors_new (codes "nobody listens\n")

-- How `sfu page` ends.
pub record EndsPage (s : Status) : Type 0 where
  -- it is never done, nor refused
  pub never : s ≢ status.Done
  pub read : s ≢ status.Refused

-- How `sfu sdp` ends.
pub record EndsSdp (old new : Option (List ℕ)) (s : Status) : Type 0 where
  -- if a word is no endpoint's number, or there are no settings for what is asked, nothing is printed
  pub refused : s ≡ status.Refused → Keeps old new
  pub settings : s ≡ status.Settings → Keeps old new

-- How `sfu settings` ends.
pub record EndsPlan (old new : Option (List ℕ)) (s : Status) : Type 0 where
  -- if it is done, what a unit with some file's settings would be is printed
  pub done : s ≡ status.Done → PrintsPlan old new
  -- it is never refused
  pub read : s ≢ status.Refused

-- how each command ends
abbrev pub Ends : Request → Option (List ℕ) → Option (List ℕ) → Option (List ℕ) → Option (List ℕ)
    → Option (List ℕ) → Status → Type 0
Ends (bound media) input old new errors_old errors_new s =
    EndsBound media input old new errors_old errors_new s
Ends (check file) input old new errors_old errors_new s = EndsCheck old new errors_old errors_new s
Ends (replay file leg endpoint from events gaps utc others) input old new errors_old errors_new s =
    EndsReplay (shown_by leg endpoint from events gaps utc) others input old new errors_old errors_new s
Ends (serve file ticks status control recorded log_time numbers log_why) input old new errors_old errors_new s =
    EndsNumbered numbers ticks old new errors_old errors_new s
Ends (draw media) input old new errors_old errors_new s =
    EndsDraw media input old new errors_old errors_new s
Ends version input old new errors_old errors_new s = EndsVersion old new s
Ends (ask path words) input old new errors_old errors_new s = EndsAsk old new errors_old errors_new s
Ends (page path address anyone host) input old new errors_old errors_new s = EndsPage s
Ends (sdp file endpoints) input old new errors_old errors_new s = EndsSdp old new s
Ends (plan file) input old new errors_old errors_new s = EndsPlan old new s

-- How a command ends of which these are the words, the program's name first.
pub record EndsCommand (words : List (List ℕ))
    (input old new errors_old errors_new : Option (List ℕ)) (s : Status) : Type 0 where
  -- what they ask for ends so
  pub ends : (asked : Request) → asked_for words ≡ Some asked
      → Ends asked input old new errors_old errors_new s
  -- if settings are at fault, nothing is printed, and the line of a fault is said
  pub settings : s ≡ status.Settings → Keeps old new × SaysProblem errors_old errors_new
  -- the words of `bound --sender N` ask for that, and are never refused as words
  pub asks : (media : ℕ) → Types words media → asked_for words ≡ Some (bound media)
  pub understood : (media : ℕ) → Types words media → s ≢ status.CommandLine
  -- what any command says of how it ends is said, unless a unit is asked for
  pub said : ¬ (AsksOfUnit (asked_for words)) → SaysWhy errors_old errors_new s
