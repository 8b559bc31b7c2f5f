-- Legs, one after the other, that begin with other numbers.
use Rattle.std.proofs.Common.{◌≡◌, ℕ, ◌+◌, ◌<◌, List, ◌∷◌, length, drop, get_or, ap}
use Rattle.std.specs.Prelude.{slice_get}
use Rattle.std.proofs.lemmas.List.{drop_more}
use Rattle.settings.specs.declared.parts.LegParts.{LegParts}
use Rattle.settings_toml.specs.Begun.{begun_leg, begun_legs}

pub begun_more : (numbers : List ℕ) (legs : List LegParts) (k : ℕ) (d : LegParts) → k < length legs
    → begun_legs numbers k (drop k legs) ≡ begun_leg (slice_get numbers k) (get_or legs k d) ∷ begun_legs numbers (k + 1) (drop (k + 1) legs)
begun_more numbers legs k d below = ap (begun_legs numbers k) (drop_more legs k d below)
