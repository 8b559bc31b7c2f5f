-- The others that are present at a desk, by its trace.
use Rattle.std.specs.Prelude.{◌≡◌, ◌≢◌, ℕ, ◌<◌, ◌≤◌, List, length, All, AllPairs}
use Rattle.desk.specs.declared.call.Entry.{Entry}
use Rattle.desk.specs.declared.base.Base.{Base}
use Rattle.desk.specs.Places.{IsPresent}

-- the owner is present with a stay, and is another than this one
abbrev pub IsAnother : Base → List Entry → ℕ → ℕ → Type 0
IsAnother base entries owner other =
    (other ≢ owner) × ((stay : ℕ) × (1 ≤ stay) × IsPresent base entries other stay)

-- so many others than this owner are present, no two of them the same (RFC 5104, section 4.2)
pub record HasOthers (base : Base) (entries : List Entry) (owner count : ℕ) : Type 0 where
  pub others : List ℕ
  pub many : length others ≡ count
  pub distinct : AllPairs (λ x y. x < y) others
  pub present : All (IsAnother base entries owner) others
