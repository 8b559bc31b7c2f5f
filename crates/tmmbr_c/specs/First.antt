-- The first element that something can be said against.
use Rattle.std.specs.Prelude.{◌≡◌, ℕ, ◌<◌, List, length, slice_index_or}
use Rattle.std.specs.List.{HoldsAt, AllWithin}
use Rattle.tmmbr_c.specs.declared.numbers.TmmbrRequest.{TmmbrRequest}

-- the fact fails at this place, and holds at each place before it
pub record IsFirstFailing {A : Type 0} (Fact : A → Type 0) (xs : List A) (place : ℕ) : Type 0 where
  pub in_range : place < length xs
  pub fails : HoldsAt (λ x. ¬ Fact x) xs place
  pub before : AllWithin Fact xs 0 place

-- an earlier request has the SSRC of the one at this place
abbrev pub IsRepeated : List TmmbrRequest → ℕ → Type 0
IsRepeated asked place = (earlier : ℕ) × (earlier < place)
    × ((d : TmmbrRequest)
    → (slice_index_or asked earlier d).ssrc ≡ (slice_index_or asked place d).ssrc)

-- the first such place
pub record IsFirstRepeated (asked : List TmmbrRequest) (place : ℕ) : Type 0 where
  pub in_range : place < length asked
  pub repeated : IsRepeated asked place
  pub before : (k : ℕ) → k < place → ¬ IsRepeated asked k
