use Rattle.std.proofs.Common.{◌≡◌, map, drop}
use Rattle.std.specs.List.{list_all}
use Rattle.toml.specs.View.{view}
use Rattle.settings_toml.specs.SettingsFaults.{is_text}
use Rattle.settings_toml.proofs.settings_keys.are_texts.Given as goal

abbrev pub invariant-loop-item : goal.invariant-loop-item
invariant-loop-item l = list_all is_text (map view (drop l.item-index l.items)) ≡ list_all is_text (map view l.items)
