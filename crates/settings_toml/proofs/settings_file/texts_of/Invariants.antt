use Rattle.std.proofs.Common.{◌≡◌, map, take}
use Rattle.std.specs.Prelude.{string_bytes}
use Rattle.toml.specs.View.{view}
use Rattle.settings_toml.specs.SettingsFile.{texts_of}
use Rattle.settings_toml.proofs.settings_file.texts_of.Given as goal

abbrev pub invariant-loop-item : goal.invariant-loop-item
invariant-loop-item l = map string_bytes l.texts.items ≡ texts_of (map view (take l.item-index l.items))
