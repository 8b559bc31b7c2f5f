-- Whom a session description is of.
use Rattle.std.specs.Prelude.{◌==◌, ℕ, Bool, List}
use Rattle.std.specs.List.{list_any}
use Rattle.settings.specs.declared.settings.LegSettings.{LegSettings}

-- one of these legs goes to this endpoint, so that there is something to describe
abbrev pub is_sent_a_leg : List LegSettings → ℕ → Bool
is_sent_a_leg legs endpoint = list_any (λ (leg : LegSettings). leg.subscriber == endpoint) legs
