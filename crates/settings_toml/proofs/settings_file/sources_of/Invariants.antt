use Rattle.std.proofs.Common.{◌≡◌, ◌++◌, drop, map}
use Rattle.toml.specs.View.{view}
use Rattle.settings_toml.specs.SettingsFile.{sources_from}
use Rattle.settings_toml.proofs.settings_file.sources_of.Given as goal

abbrev pub invariant-loop-number : goal.invariant-loop-number
invariant-loop-number l =
    l.sources.items ++ sources_from l.unit l.number (map view (drop l.number l.endpoints)) ≡ sources_from l.unit 0 (map view l.endpoints)
