use Rattle.std.proofs.Common.{◌≡◌, map, take}
use Rattle.toml.specs.View.{view}
use Rattle.settings_toml.specs.SettingsFile.{leg_in}
use Rattle.settings_toml.proofs.settings_file.legs_of.Given as goal

abbrev pub invariant-loop-leg : goal.invariant-loop-leg
invariant-loop-leg l = l.parts.items ≡ map (λ x. leg_in (view x)) (take l.leg-index l.legs)
