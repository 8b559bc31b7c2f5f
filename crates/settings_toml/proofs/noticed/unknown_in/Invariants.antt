use Rattle.std.proofs.Common.{◌≡◌}
use Rattle.toml.specs.View.{members_view, table_view}
use Rattle.settings_toml.specs.Noticed.{is_known}
use Rattle.settings_toml.specs.SettingsFaults.{misfit_in, spot_of}
use Rattle.settings_toml.proofs.noticed.unknown_in.Given as goal

abbrev pub invariant-loop-key : goal.invariant-loop-key
invariant-loop-key l =
    (goal.iterator-loop-key).can_next l.key-iterator ×
    (goal.iterator-loop-key).is_finite l.key-iterator ×
    (misfit_in (λ key value. is_known (spot_of l.place) key) (members_view l.key-iterator) ≡ misfit_in (λ key value. is_known (spot_of l.place) key) (table_view l.table))
