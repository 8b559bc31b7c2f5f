-- The live requests, as a map from owners to tuples.
use Rattle.std.specs.Prelude.{◌≡◌, ◌≢◌, ℕ, ◌+◌, length, List, Option, is_some, if◌then◌else◌}
use Rattle.tmmbr_tuple.specs.declared.tuple.Tuple.{Tuple}
use Rattle.rate_cert.specs.declared.request.Request.{Request}
use Rattle.rate_cert.specs.Owners.{OwnersRise, value_for, IsOwnerAt, IsOwnerGap}

-- owners rise, so none stands twice: the rows are a map by owner
abbrev pub HasRisingOwners : List Request → Type 0
HasRisingOwners rows = OwnersRise (λ r. r.owner.0) rows

-- what the owner asks for, where it is live
abbrev pub tuple_of : List Request → ℕ → Option Tuple
tuple_of rows owner = value_for (λ r. r.owner.0) (λ r. r.tuple) rows owner

-- the row at this place is the owner's
abbrev pub IsRowOf : List Request → ℕ → ℕ → Type 0
IsRowOf rows owner place = IsOwnerAt (λ r. r.owner.0) rows owner place

-- the owner's row would go to this place: lesser owners stand before it, greater ones from it on
abbrev pub IsGapFor : List Request → ℕ → ℕ → Type 0
IsGapFor rows owner place = IsOwnerGap (λ r. r.owner.0) rows owner place

-- the owner asks for this now, and the others for what they did
pub record Puts (old new : List Request) (owner : ℕ) (tuple : Option Tuple) : Type 0 where
  pub changed : tuple_of new owner ≡ tuple
  pub others : (other : ℕ) → other ≢ owner → tuple_of new other ≡ tuple_of old other

-- how many rows there are once the owner has one
abbrev pub count_with : List Request → ℕ → ℕ
count_with rows owner = if is_some (tuple_of rows owner) then length rows else length rows + 1
