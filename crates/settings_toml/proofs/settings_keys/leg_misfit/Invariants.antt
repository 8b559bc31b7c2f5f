use Rattle.std.proofs.Common.{◌≡◌, map, drop}
use Rattle.toml.specs.View.{view}
use Rattle.settings_toml.specs.SettingsFaults.{leg, list_misfit, takes_leg}
use Rattle.settings_toml.proofs.settings_keys.leg_misfit.Given as goal

abbrev pub invariant-loop-number : goal.invariant-loop-number
invariant-loop-number l = list_misfit takes_leg leg l.number (map view (drop l.number l.legs)) ≡ list_misfit takes_leg leg 0 (map view l.legs)
