use Rattle.std.proofs.Common.{◌≡◌, map, take}
use Rattle.toml.specs.View.{view}
use Rattle.settings_toml.specs.SettingsFile.{cname_in, text_bytes}
use Rattle.settings_toml.proofs.settings_file.cnames_of.Given as goal

abbrev pub invariant-loop-endpoint : goal.invariant-loop-endpoint
invariant-loop-endpoint l = map text_bytes l.cnames.items ≡ map (λ x. cname_in (view x)) (take l.endpoint-index l.endpoints)
