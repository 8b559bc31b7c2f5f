-- Entries of one size that stand one after the other.
use Rattle.std.specs.Prelude.{ℕ, zero, suc, List, [], ◌∷◌, drop}

-- so many entries of this size, each as it is read from its bytes
abbrev pub entries_from : {A : Type 0} → (List ℕ → A) → ℕ → ℕ → List ℕ → List A
entries_from entry size zero bytes = []
entries_from entry size (suc n) bytes = entry bytes ∷ entries_from entry size n (drop size bytes)
