-- What `sfu settings` prints.
use Rattle.std.specs.Prelude.{◌≡◌, ℕ, List, Option, Ok}
use Rattle.std.specs.Io.KnownBytes.{Appends}
use Rattle.cli.specs.Plan.{plan_of, plan_text}
use Rattle.settings.specs.Settings.{Configuration}
use Rattle.settings_toml.specs.SettingsFaults.{TextGives}
use Rattle.settings_toml.specs.declared.settings_file.FileSettings.{FileSettings}

-- These settings are those that some text gives.
pub record AreOfText (settings : Configuration) : Type 0 where
  pub text : List ℕ
  pub file : FileSettings
  pub gives : TextGives text (Ok file)
  pub are : settings ≡ file.settings

-- What a unit with such settings would be is printed.
pub record PrintsPlan (old new : Option (List ℕ)) : Type 0 where
  pub settings : Configuration
  pub of_text : AreOfText settings
  pub printed : Appends old new (plan_text (plan_of settings))
