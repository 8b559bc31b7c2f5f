-- The names that a unit has itself: its own, its seats' and its legs'.
use Rattle.std.specs.Prelude.{◌==◌, ◌||◌, ℕ, Bool, not}
use Rattle.std.specs.List.{list_any}
use Rattle.settings.specs.Settings.{Configuration}

abbrev pub is_units : Configuration → ℕ → Bool
is_units c name =
    (c.unit_ssrc.0 == name) || list_any (λ s. s.0 == name) c.endpoints
    || list_any (λ l. l.out_ssrc.0 == name) c.legs

-- The client of this seat may have this name: its seat's, or one that is none of the unit's. So a packet that comes back to the unit is nobody's (RFC
-- 3550, section 8.2).
abbrev pub is_free : Configuration → ℕ → ℕ → Bool
is_free c seat name = (name == seat) || not (is_units c name)
