-- Who is at a key: an endpoint alone, or several.
use Rattle.std.specs.Prelude.{◌==◌, ℕ, Bool, List, [], ◌∷◌, Option, Some, None, if◌then◌else◌}
use Rattle.addresses.specs.declared.endpoints_by_key.Occupants.{Occupants}
use Rattle.addresses.specs.declared.endpoints_by_key.Occupants.TheVariants.{Alone, Several}

-- who is there once this endpoint came, too
abbrev pub beside : Option Occupants → ℕ → Occupants
beside None endpoint = Alone endpoint
beside (Some (Alone other)) endpoint = if other == endpoint then Alone other else Several
beside (Some Several) endpoint = Several

-- who is at the key once these endpoints came to their keys
abbrev pub occupants_after : {K : Type 0} → (K → K → Bool) → Option Occupants → List (K × ℕ) → K
    → Option Occupants
occupants_after same before [] key = before
occupants_after same before (entry ∷ entries) key =
    occupants_after same (if same key entry.0 then Some (beside before entry.1) else before)
    entries key

-- who is at a key: an endpoint alone, or several
abbrev pub occupants_of : {K : Type 0} → (K → K → Bool) → List (K × ℕ) → K → Option Occupants
occupants_of same entries key = occupants_after same None entries key
