use Rattle.std.proofs.Common.{◌≡◌}
use Rattle.toml.specs.Data.{as_table}
use Rattle.toml.specs.View.{members_view, view}
use Rattle.settings_toml.specs.SettingsFaults.{misfit_in, table_misfit, takes_endpoint}
use Rattle.settings_toml.proofs.settings_keys.endpoint_key.Given as goal

abbrev pub invariant-loop-key : goal.invariant-loop-key
invariant-loop-key l =
    (goal.iterator-loop-key).can_next l.key-iterator ×
    (goal.iterator-loop-key).is_finite l.key-iterator ×
    (misfit_in takes_endpoint (members_view l.key-iterator) ≡ table_misfit takes_endpoint (as_table (view l.item)))
