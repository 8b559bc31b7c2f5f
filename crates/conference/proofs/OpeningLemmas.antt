-- What a settings text opens.
use Rattle.std.proofs.Common.{◌≡◌, ◌∙◌, ℕ, List, sym, subst}
use Rattle.std.specs.Prelude.{◌≢◌, Result, Ok}
use Rattle.settings_toml.specs.declared.settings_file.FileSettings.{FileSettings}
use Rattle.settings_toml.specs.declared.settings_file.SettingsProblem.{SettingsProblem}
use Rattle.settings_toml.specs.SettingsFaults.{TextGives}
use Rattle.conference.specs.Limited.{limit_by}
use Rattle.conference.specs.Conference.{ConferenceState, HasWorkers, IsNewConference, OpensBy}

pub has_workers : (text : List ℕ) (file : FileSettings) (r : Result FileSettings SettingsProblem) (count : ℕ) → TextGives text r → r ≡ Ok file
    → count ≡ file.settings.workers → count ≢ 1 → HasWorkers text count
has_workers text file r count gives is says several = record {
  file = file;
  gives = subst (λ (x : Result FileSettings SettingsProblem). TextGives text x) is gives;
  says = sym says;
  several = several;
}

pub opens_by : (text : List ℕ) (file : FileSettings) (r : Result FileSettings SettingsProblem) (count : ℕ) (s : ConferenceState)
    → TextGives text r → r ≡ Ok file → count ≡ file.settings.workers → count ≡ 1 → IsNewConference file.settings s
    → s.limit ≡ limit_by file.bounds.entry_limit → OpensBy text s
opens_by text file r count s gives is says one new limit = record {
  file = file;
  gives = subst (λ (x : Result FileSettings SettingsProblem). TextGives text x) is gives;
  one = sym says ∙ one;
  is_new = new;
  limit = limit;
}
