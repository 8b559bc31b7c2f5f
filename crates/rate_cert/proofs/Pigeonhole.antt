-- If each of some things has a partner, and no two share one, there are no more things than partners.
use Rattle.std.proofs.Common.{◌≡◌, suc, ◌≤◌, List, [], ◌∷◌, length, get_or, ◌⊎◌, inl, inr, ap, refl, arith}
use Rattle.std.specs.Prelude.{All, AllPairs}
use Rattle.std.proofs.lemmas.List.Elements.{All-head, All-tail}

module _ {X : Type 0} where
  -- P holds of some element
  abbrev pub AnyByRecursion : (X → Type 0) → List X → Type 0
  AnyByRecursion P [] = ⊥
  AnyByRecursion P (x ∷ xs) = P x ⊎ AnyByRecursion P xs

  -- the element that was found, and the list without it
  pub found : (P : X → Type 0) (xs : List X) → AnyByRecursion P xs → (x : X) × P x
  found P [] any = absurd any
  found P (x ∷ xs) (inl here) = (x, here)
  found P (x ∷ xs) (inr later) = found P xs later

  pub others : (P : X → Type 0) (xs : List X) → AnyByRecursion P xs → List X
  others P [] any = absurd any
  others P (x ∷ xs) (inl here) = xs
  others P (x ∷ xs) (inr later) = x ∷ others P xs later

  pub length-others : (P : X → Type 0) (xs : List X) (any : AnyByRecursion P xs) → length xs ≡ suc (length (others P xs any))
  unfolding others
  length-others P [] any = absurd any
  length-others P (x ∷ xs) (inl here) = refl
  length-others P (x ∷ xs) (inr later) = ap suc (length-others P xs later)

  -- what the found element isn't stands among the others
  pub still_found : (P Q : X → Type 0) (xs : List X) (any : AnyByRecursion P xs) → (Q (found P xs any).0 → ⊥) → AnyByRecursion Q xs
      → AnyByRecursion Q (others P xs any)
  unfolding found others
  still_found P Q [] any differs q = absurd any
  still_found P Q (x ∷ xs) (inl here) differs (inl q) = absurd (differs q)
  still_found P Q (x ∷ xs) (inl here) differs (inr q) = q
  still_found P Q (x ∷ xs) (inr later) differs (inl q) = inl q
  still_found P Q (x ∷ xs) (inr later) differs (inr q) = inr (still_found P Q xs later differs q)

pub pairs_with_first : {Y : Type 0} (R : Y → Y → Type 0) (y : Y) (ys : List Y) → AllPairs R (y ∷ ys) → All (R y) ys
pairs_with_first R y ys pairs = λ k d below. pairs 0 (suc k) d (omega arith) (omega arith)

pub pairs_of_others : {Y : Type 0} (R : Y → Y → Type 0) (y : Y) (ys : List Y) → AllPairs R (y ∷ ys) → AllPairs R ys
pairs_of_others R y ys pairs = λ j k d before below. pairs (suc j) (suc k) d (omega arith) (omega arith)

-- F x y: x may be the partner of y
pub no_more_than_partners : {X Y : Type 0} (F : X → Y → Type 0) (xs : List X) (ys : List Y)
    → All (λ y. AnyByRecursion (λ x. F x y) xs) ys
    → AllPairs (λ y z. (x : X) → F x y → F x z → ⊥) ys
    → length ys ≤ length xs
no_more_than_partners F xs [] each apart = omega arith
no_more_than_partners {X} {Y} F xs (y ∷ ys) each apart =
    let any = All-head (λ y. AnyByRecursion (λ x. F x y) xs) y ys each in
    let partner = found (λ x. F x y) xs any in
    let rest = others (λ x. F x y) xs any in
    let Apart : Y → Y → Type 0 = λ y z. (x : X) → F x y → F x z → ⊥ in
    let each_rest : All (λ z. AnyByRecursion (λ x. F x z) rest) ys = λ k d below.
    still_found (λ x. F x y) (λ x. F x (get_or ys k d)) xs any
    (pairs_with_first Apart y ys apart k d below partner.0 partner.1)
    (All-tail (λ y. AnyByRecursion (λ x. F x y) xs) y ys each k d below) in
    let fewer : length ys ≤ length rest = no_more_than_partners F rest ys each_rest (pairs_of_others Apart y ys apart) in
    omega (arith, length-others (λ x. F x y) xs any)
