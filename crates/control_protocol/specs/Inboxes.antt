-- Lines among the bytes of a peer.
use Rattle.std.specs.Prelude.{◌≡◌, ◌<◌, ◌==◌, ◌++◌, ℕ, true, List, ◌∷◌, length, slice_index}

-- no line has ended in these bytes: none of them is the end of a line, 10
abbrev pub IsOpen : List ℕ → Type 0
IsOpen bytes = (k : ℕ) → k < length bytes → ¬ ((slice_index bytes k == 10) ≡ true)

-- the first line of these bytes, and what comes after its end
pub record IsLineOf (bytes line rest : List ℕ) : Type 0 where
  pub parts : bytes ≡ line ++ 10 ∷ rest
  pub first : IsOpen line
