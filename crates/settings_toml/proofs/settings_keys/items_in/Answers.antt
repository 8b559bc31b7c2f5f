use Rattle.std.proofs.Common.{◌∙◌, ap, map}
use Rattle.toml.specs.View.{view}
use Rattle.settings_toml.proofs.SettingsLemmas.{items_listed}
use Rattle.settings_toml.proofs.settings_keys.items_in.Goals as goal

pub returns-in-Some : goal.returns-in-Some
returns-in-Some c = ap (map view) c.as_slice.ensures.value ∙ items_listed (view c.args.value.now) c.in-Some.items.now.items c.in-Some.ensures
