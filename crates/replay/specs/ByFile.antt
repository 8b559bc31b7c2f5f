-- What `sfu replay` prints by the settings of a file.
use Rattle.std.specs.Prelude.{◌≡◌, ◌⊎◌, ℕ, Bool, true, false, List, Option, Some, Ok, IfSome, codes, unwrap_or}
use Rattle.std.specs.Io.KnownBytes.{Appends, Keeps}
use Rattle.std.specs.declared.io.ErrorKind.{ErrorKind}
use Rattle.std.specs.declared.io.ErrorKind.TheVariants.{OutOfMemory}
use Rattle.cli.specs.declared.status.Status.{Status}
use Rattle.cli.specs.declared.status.Status.TheVariants as status
use Rattle.replay.specs.Head.{is_of_others}
use Rattle.replay.specs.Shown.{unknown_in}
use Rattle.replay.specs.declared.by_file.ReplaySettings.{ReplaySettings}
use Rattle.replay.specs.declared.shown.Shown.{Shown}
use Rattle.replay.specs.declared.shown.Unknown.{Unknown}
use Rattle.replay.specs.declared.shown.Unknown.TheVariants as unknown
use Rattle.replay.specs.Replay.{PrintsReplay, RefusesReplay}
use Rattle.settings_toml.specs.SettingsFaults.{TextGives}
use Rattle.settings_toml.specs.declared.settings_file.FileSettings.{FileSettings}
use Rattle.settings_toml.specs.declared.settings_file.SettingsProblem.{SettingsProblem}
use Rattle.settings_toml.specs.declared.settings_file.SettingsProblem.TheVariants.{NoMemory, File}
use Rattle.sha2.specs.Sha256.{sha256}

-- what is to be shown by `--only-leg`, `--only-endpoint`, `--from`, `--events`, `--gaps` and `--utc`
abbrev pub shown_by : Option ℕ → Option ℕ → Option ℕ → Bool → Option ℕ → Bool → Shown
shown_by leg endpoint from events gaps utc = record {
  only_leg = leg;
  only_endpoint = endpoint;
  from_ms = unwrap_or from 0;
  events = events;
  gaps_ms = gaps;
  utc = utc;
}

-- the settings that a text spells, and its SHA-256
pub record HoldsSettings (text : List ℕ) (s : ReplaySettings) : Type 0 where
  pub gives : TextGives text (Ok s.file)
  pub digest : s.digest ≡ sha256 text

-- whether a script is refused, since it is the record of a unit with other settings than those of this digest, and these won't do
abbrev pub is_refused : Bool → List ℕ → List ℕ → Bool
is_refused true digest script = false
is_refused false digest script = is_of_others digest script

-- why there are no settings in a file that couldn't be opened or read
abbrev pub problem_by : ErrorKind → SettingsProblem
problem_by OutOfMemory = NoMemory
problem_by kind = File

abbrev pub unknown_text : Unknown → List ℕ
unknown_text unknown.Endpoint = codes "refused endpoint\n"
unknown_text unknown.Leg = codes "refused leg\n"

-- The settings of a file lack the endpoint, or the leg, that is to be shown: nothing is printed, and the error output says which.
pub record NamesNobody (s : Shown) (old new errors_old errors_new : Option (List ℕ)) : Type 0 where
  pub file : List ℕ
  pub settings : FileSettings
  pub gives : TextGives file (Ok settings)
  pub whom : Unknown
  pub lacks : unknown_in settings.settings s ≡ Some whom
  pub kept : Keeps old new
  pub said : Appends errors_old errors_new (unknown_text whom)

-- The script was played by the settings of a file, which are those of its unit, or others will do.
pub record PrintsByFile (s : Shown) (others : Bool) (script : List ℕ) (old new : Option (List ℕ))
    : Type 0 where
  pub file : List ℕ
  pub settings : FileSettings
  pub gives : TextGives file (Ok settings)
  pub fits : is_refused others (sha256 file) script ≡ false
  pub prints : PrintsReplay settings.settings s script old new

pub record RefusesByFile (s : Shown) (others : Bool) (script : List ℕ)
    (old new errors_old errors_new : Option (List ℕ)) : Type 0 where
  pub file : List ℕ
  pub settings : FileSettings
  pub gives : TextGives file (Ok settings)
  pub fits : is_refused others (sha256 file) script ≡ false
  pub refuses : RefusesReplay settings.settings s script old new errors_old errors_new

-- The script is the record of a unit with other settings than those of the file: nothing is printed, and the error output says so.
pub record NamesOthers (others : Bool) (script : List ℕ)
    (old new errors_old errors_new : Option (List ℕ)) : Type 0 where
  pub file : List ℕ
  pub settings : FileSettings
  pub gives : TextGives file (Ok settings)
  pub differs : is_refused others (sha256 file) script ≡ true
  pub kept : Keeps old new
  pub said : Appends errors_old errors_new (codes "refused settings\n")

-- How `sfu replay` ends: `input` is what there was to read, `old` and `new` what was printed before it and is after it, `errors_old` and
-- `errors_new` what was said on the error output.
pub record EndsReplay (shown : Shown) (others : Bool)
    (input old new errors_old errors_new : Option (List ℕ)) (s : Status) : Type 0 where
  -- if it is done, what is to be shown of what the script gives is printed
  pub done : s ≡ status.Done → IfSome input (λ script. PrintsByFile shown others script old new)
  -- if it is refused, the settings lack who is to be shown, or the script is of others; or what comes before the first line that can't be
  -- read is printed, and that line's number is said
  pub refused : s ≡ status.Refused
      → NamesNobody shown old new errors_old errors_new
      ⊎ IfSome input (λ script. NamesOthers others script old new errors_old errors_new
      ⊎ RefusesByFile shown others script old new errors_old errors_new)
