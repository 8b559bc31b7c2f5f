use Rattle.std.proofs.Common.{None, Some, ap, ◌∙◌}
use Rattle.toml.proofs.Views.{table_get}
use Rattle.settings_toml.specs.SettingsFile.{items_in}
use Rattle.settings_toml.proofs.settings_keys.items_at.Goals as goal

pub returns-in-Some : goal.returns-in-Some
returns-in-Some c =
    c.items_in.ensures
    ∙ ap items_in (table_get (Some c.in-Some.value) c.args.key.now c.args.table.now.entries c.in-Some.ensures.value)

pub returns-in-None : goal.returns-in-None
returns-in-None c = ap items_in (table_get None c.args.key.now c.args.table.now.entries c.in-None.ensures.value)
