-- What is said of a settings file that holds no settings.
use Rattle.std.specs.Prelude.{◌≢◌, ℕ, List, ◌++◌, Option, codes, string_bytes}
use Rattle.std.specs.Fmt.{decimal}
use Rattle.std.specs.Io.KnownBytes.{Appends}
use Rattle.settings_toml.specs.declared.settings_file.SettingsProblem.{SettingsProblem}
use Rattle.settings_toml.specs.declared.settings_file.SettingsProblem.TheVariants.{NoMemory, File, Toml, Top, Endpoint, Leg, SameSsrc}

-- the line that is said of a problem of the settings
abbrev pub problem_line : SettingsProblem → List ℕ
problem_line NoMemory = codes "no memory\n"
problem_line File = codes "settings: toml\n"
problem_line Toml = codes "settings: toml\n"
problem_line (Top key) = codes "settings: " ++ (string_bytes key ++ codes "\n")
problem_line (Endpoint number key) = codes "settings: endpoint "
    ++ (decimal number ++ (codes " " ++ (string_bytes key ++ codes "\n")))
problem_line (Leg number key) =
    codes "settings: leg " ++ (decimal number ++ (codes " " ++ (string_bytes key ++ codes "\n")))
problem_line SameSsrc = codes "settings: ssrc\n"

-- The error output has the line for a fault of the settings.
pub record SaysProblem (old new : Option (List ℕ)) : Type 0 where
  pub problem : SettingsProblem
  pub fault : problem ≢ NoMemory
  pub shown : Appends old new (problem_line problem)
