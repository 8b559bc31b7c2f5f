-- Rows of any kind by the owner that each has: rising owners, places, gaps, what is known of one.
use Rattle.std.specs.Prelude.{◌≡◌, ◌==◌, ℕ, ◌<◌, ◌≤◌, nat_lt, not, filter, length, List, [], ◌∷◌, AllPairs, Option, None, Some, if◌then◌else◌}
use Rattle.std.specs.List.{HoldsAt, AllWithin}

-- owners rise, so none stands twice
abbrev pub OwnersRise : {A : Type 0} → (A → ℕ) → List A → Type 0
OwnersRise owner_of rows = AllPairs (λ x y. owner_of x < owner_of y) rows

-- what the first row of the owner says, if it has one
abbrev pub value_for : {A B : Type 0} → (A → ℕ) → (A → B) → List A → ℕ → Option B
value_for owner_of value_of [] owner = None
value_for owner_of value_of (r ∷ rows) owner =
    if owner_of r == owner then Some (value_of r) else value_for owner_of value_of rows owner

-- the rows by rising owner, with this one in the place of its owner's, or among the others
abbrev pub with_row : {A : Type 0} → (A → ℕ) → List A → A → List A
with_row owner_of [] new = new ∷ []
with_row owner_of (r ∷ rows) new =
    if nat_lt (owner_of new) (owner_of r) then new ∷ r ∷ rows
    else if owner_of r == owner_of new then new ∷ rows
    else r ∷ with_row owner_of rows new

-- the rows without the owner's
abbrev pub without_row : {A : Type 0} → (A → ℕ) → List A → ℕ → List A
without_row owner_of rows owner = filter (λ r. not (owner_of r == owner)) rows

-- the row at this place is the owner's
pub record IsOwnerAt {A : Type 0} (owner_of : A → ℕ) (rows : List A) (owner at : ℕ) : Type 0 where
  pub in_range : at < length rows
  pub is_owner : HoldsAt (λ r. owner_of r ≡ owner) rows at

-- the owner's row would go to this place: lesser owners stand before it, greater ones from it on
pub record IsOwnerGap {A : Type 0} (owner_of : A → ℕ) (rows : List A) (owner at : ℕ) : Type 0 where
  pub in_range : at ≤ length rows
  pub lesser_before : AllWithin (λ r. owner_of r < owner) rows 0 at
  pub greater_after : AllWithin (λ r. owner < owner_of r) rows at (length rows)
