-- What waits, one task after another.
use Rattle.std.proofs.Common.{◌≡◌, ℕ, ◌+◌, ◌<◌, ◌≤◌, List, ◌∷◌, ◌++◌, length, drop, get_or, refl, add-one, drop-cons}
use Rattle.std.proofs.lemmas.List.{drop_all}
use Rattle.std.specs.Prelude.{map}
use Rattle.core_steps.specs.World.{Task}

-- the first of two lists has one more
pub first_of_orders : {X : Type 0} (f : X → Task) (xs : List X) (i : ℕ) (d : X) (rest : List Task) → i < length xs
    → map f (drop i xs) ++ rest ≡ f (get_or xs i d) ∷ (map f (drop (i + 1) xs) ++ rest)
first_of_orders f xs i d rest h = rw (add-one, drop-cons xs i d h) refl

-- the first list is done, and the second has one more
pub first_of_rest : {X Y : Type 0} (f : X → Task) (g : Y → Task) (xs : List X) (ys : List Y) (i j : ℕ) (d : Y)
    → length xs ≤ i → j < length ys
    → map f (drop i xs) ++ map g (drop j ys) ≡ g (get_or ys j d) ∷ (map f (drop i xs) ++ map g (drop (j + 1) ys))
first_of_rest f g xs ys i j d past h = rw (drop_all i xs past, add-one, drop-cons ys j d h) refl
