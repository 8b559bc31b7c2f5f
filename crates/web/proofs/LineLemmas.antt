-- What is made of texts, of the references to them.
use Rattle.std.proofs.Common.{◌≡◌, ◌++◌, ℕ, List, [], ◌∷◌, Bor, map, refl, ap}
use Rattle.std.specs.Prelude.{flat_map}

pub flat_map_now : {B : Type 0} (f : List ℕ → List B) (xs : List (Bor (List ℕ)))
    → flat_map (λ (x : Bor (List ℕ)). f x.now) xs ≡ flat_map f (map (λ (x : Bor (List ℕ)). x.now) xs)
flat_map_now f [] = refl
flat_map_now f (x ∷ xs) = ap (λ ys. f x.now ++ ys) (flat_map_now f xs)
