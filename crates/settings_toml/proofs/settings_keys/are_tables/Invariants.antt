use Rattle.std.proofs.Common.{◌≡◌, map, drop}
use Rattle.std.specs.List.{list_all}
use Rattle.toml.specs.View.{view}
use Rattle.settings_toml.specs.SettingsFaults.{is_table}
use Rattle.settings_toml.proofs.settings_keys.are_tables.Given as goal

abbrev pub invariant-loop-item : goal.invariant-loop-item
invariant-loop-item l = list_all is_table (map view (drop l.item-index l.items)) ≡ list_all is_table (map view l.items)
