-- How the entries of a certificate stand for requests.
use Rattle.std.specs.Prelude.{◌≡◌, ◌==◌, ℕ, ◌*◌, ◌<◌, ◌≤◌, Bool, List, [], ◌∷◌, length, map, All, slice_index_or}
use Rattle.std.specs.List.{HoldsAt, list_any}
use Rattle.tmmbr_tuple.specs.Tuple.{rate_of}
use Rattle.tmmbr_tuple.specs.RatePair.{RatePair, pair_of}
use Rattle.rate_cert.specs.declared.request.Request.{Request}
use Rattle.rate_cert.specs.declared.certificate.Kept.{Kept}
use Rattle.rate_cert.specs.Choice.{chosen_requests}
use Rattle.rate_cert.specs.Certificate.{places_of}
use Rattle.bounding_set.specs.Certificate.{End, Listed}
use Rattle.bounding_set.specs.declared.line_end.LineEnd.{LineEnd}

-- the packet rate that a value of the program stands for
abbrev pub end_of : LineEnd → End
end_of e = record { upper = e.upper; lower = e.lower }

-- an end of the request's line isn't beyond where the line leaves nothing for media
abbrev pub IsEndOf : Request → End → Type 0
IsEndOf x e = 8 * x.tuple.overhead * e.upper ≤ rate_of x.tuple * e.lower

-- the line of the first of these requests may begin at this end
abbrev pub HasLeftEnd : End → List Request → Type 0
HasLeftEnd left [] = Unit {0}
HasLeftEnd left (x ∷ xs) = (1 ≤ left.lower) × IsEndOf x left

-- the request stands at this place of the rows
pub record StandsAt (rows : List Request) (request : Request) (place : ℕ) : Type 0 where
  pub in_range : place < length rows
  pub is : HoldsAt (λ r. r ≡ request) rows place

-- the kept entries have the places of these requests, in their order
pub record KeepsRequests (rows requests : List Request) (kept : List Kept) : Type 0 where
  pub in_range : All (λ k. k.place < length rows) kept
  pub in_turn : chosen_requests rows (places_of kept) ≡ requests

-- the pairs of the kept entries
abbrev pub pairs_of : List Kept → List RatePair
pairs_of kept = map (λ k. pair_of k.pair) kept

-- a kept entry's place and overhead; d stands past the end
abbrev pub listed_at : List Request → Request → ℕ → Listed
listed_at rows d place =
    record { place = place; overhead = (slice_index_or rows place d).tuple.overhead }

abbrev pub listed_of : List Request → Request → List Kept → List Listed
listed_of rows d kept = map (listed_at rows d) (places_of kept)

-- these entries keep these requests with these places and overheads
pub record Lists (announced : List Request) (kept : List Kept) (listed : List Listed) : Type 0 where
  pub as_many : length listed ≡ length kept
  pub each : (j : ℕ) (l : Listed) (k : Kept) (r : Request) → j < length kept
      → slice_index_or listed j l ≡ record {
        place = (slice_index_or kept j k).place;
        overhead = (slice_index_or announced j r).tuple.overhead;
      }

-- just the places of the kept entries are marked
abbrev pub IsMarked : List Kept → List Bool → Type 0
IsMarked kept marks = (place : ℕ) (d : Bool) → place < length marks
    → slice_index_or marks place d ≡ list_any (λ k. k.place == place) kept
