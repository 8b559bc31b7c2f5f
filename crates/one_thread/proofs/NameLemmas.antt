-- References that stay.
use Rattle.std.proofs.Common.{◌≡◌, ℕ, List, [], ◌∷◌}

pub first_name : (a b c d : ℕ) → ◌≡◌ {A = List ℕ} (a ∷ b ∷ []) (c ∷ d ∷ []) → a ≡ c
first_name a b c d e = cc

pub second_name : (a b c d : ℕ) → ◌≡◌ {A = List ℕ} (a ∷ b ∷ []) (c ∷ d ∷ []) → b ≡ d
second_name a b c d e = cc
