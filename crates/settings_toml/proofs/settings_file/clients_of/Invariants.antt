use Rattle.std.proofs.Common.{◌≡◌, map, take}
use Rattle.toml.specs.View.{view}
use Rattle.settings_toml.specs.SettingsFile.{client_in, client_says}
use Rattle.settings_toml.proofs.settings_file.clients_of.Given as goal

abbrev pub invariant-loop-endpoint : goal.invariant-loop-endpoint
invariant-loop-endpoint l = map client_says l.clients.items ≡ map (λ x. client_in (view x)) (take l.endpoint-index l.endpoints)
