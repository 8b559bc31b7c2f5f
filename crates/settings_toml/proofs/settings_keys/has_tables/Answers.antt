use Rattle.std.proofs.Common.{◌∙◌, ap, map}
use Rattle.std.specs.List.{list_all}
use Rattle.toml.specs.View.{view}
use Rattle.settings_toml.specs.SettingsFaults.{is_table}
use Rattle.settings_toml.proofs.SettingsLemmas.{all_listed}
use Rattle.settings_toml.proofs.settings_keys.has_tables.Goals as goal

pub returns-in-Some : goal.returns-in-Some
returns-in-Some c =
    c.are_tables.ensures ∙ ap (λ vs. list_all is_table (map view vs)) c.as_slice.ensures.value
    ∙ all_listed is_table (view c.args.value.now) c.in-Some.items.now.items c.in-Some.ensures
