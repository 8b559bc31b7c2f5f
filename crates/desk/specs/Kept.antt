-- Which rows are announced, as bits.
use Rattle.std.specs.Prelude.{◌≡◌, ℕ, ◌/◌, ◌%◌, ◌<◌, ◌≤◌, ◌↔◌, List, length, slice_index_or}
use Rattle.std.specs.List.{HoldsAt}
use Rattle.std.specs.Int.{bit_at}
use Rattle.rate_cert.specs.declared.request.Request.{Request}
use Rattle.bounding_set.specs.Canonical.{IsAnnounced}
use Rattle.desk.specs.declared.kept.TheConstants.{WORD_BITS}

-- the bit of this row is set
abbrev pub IsMarked : List ℕ → ℕ → Type 0
IsMarked words row = bit_at (slice_index_or words (row / WORD_BITS) 0) (row % WORD_BITS) ≡ 1

-- bit i modulo 64 of word i / 64 says that row i is announced, and no bit after the rows is set
pub record KeepsRows (rows : List Request) (kept : List ℕ) : Type 0 where
  pub announced : (row : ℕ) → row < length rows
      → (IsMarked kept row ↔ HoldsAt (IsAnnounced rows) rows row)
  pub no_more : (row : ℕ) → length rows ≤ row → ¬ IsMarked kept row
