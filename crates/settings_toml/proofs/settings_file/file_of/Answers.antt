use Rattle.std.proofs.Common.{◌∙◌, ap, map}
use Rattle.settings_toml.specs.SettingsFile.{client_in}
use Rattle.settings_toml.proofs.SettingsLemmas.{map-view}
use Rattle.settings_toml.proofs.settings_file.file_of.Goals as goal

pub returns-clause-clients : goal.returns-clause-clients
returns-clause-clients c =
    c.in_ok-clients_of.ensures ∙ map-view client_in c.items_at.result.now ∙ ap (map client_in) c.items_at.ensures
