use Rattle.std.proofs.Common.{◌≡◌, map, drop}
use Rattle.toml.specs.View.{view}
use Rattle.settings_toml.specs.SettingsFaults.{endpoint, list_misfit, takes_endpoint}
use Rattle.settings_toml.proofs.settings_keys.endpoint_misfit.Given as goal

abbrev pub invariant-loop-number : goal.invariant-loop-number
invariant-loop-number l = list_misfit takes_endpoint endpoint l.number (map view (drop l.number l.endpoints)) ≡ list_misfit takes_endpoint endpoint 0 (map view l.endpoints)
