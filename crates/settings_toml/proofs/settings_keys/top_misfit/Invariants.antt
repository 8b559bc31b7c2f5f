use Rattle.std.proofs.Common.{◌≡◌}
use Rattle.toml.specs.View.{members_view, table_view}
use Rattle.settings_toml.specs.SettingsFaults.{misfit_in, takes_top}
use Rattle.settings_toml.proofs.settings_keys.top_misfit.Given as goal

abbrev pub invariant-loop-key : goal.invariant-loop-key
invariant-loop-key l =
    (goal.iterator-loop-key).can_next l.key-iterator ×
    (goal.iterator-loop-key).is_finite l.key-iterator ×
    (misfit_in takes_top (members_view l.key-iterator) ≡ misfit_in takes_top (table_view l.table))
