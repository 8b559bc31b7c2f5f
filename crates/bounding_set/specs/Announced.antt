-- The announced requests as a list: what they owe to the live requests and to their certificate.
use Rattle.std.specs.Prelude.{◌≡◌, ℕ, ◌+◌, ◌*◌, ◌<◌, ◌≤◌, ◌↔◌, List, [], ◌∷◌, length, All, AllPairs, Any, Contains, slice_index_or}
use Rattle.tmmbr_tuple.specs.Tuple.{rate_of}
use Rattle.tmmbr_tuple.specs.RatePair.{RatePair, Forbids}
use Rattle.rate_cert.specs.declared.request.Request.{Request}
use Rattle.bounding_set.specs.Canonical.{IsAnnounced, StopsMedia}
use Rattle.bounding_set.specs.Certificate.{kept_pairs}

-- y has more overhead and a greater rate than x, and reaches no farther
pub record Follows (x y : Request) : Type 0 where
  pub overhead : x.tuple.overhead < y.tuple.overhead
  pub rate : rate_of x.tuple < rate_of y.tuple
  pub reach : rate_of y.tuple * x.tuple.overhead ≤ rate_of x.tuple * y.tuple.overhead

-- the line of y isn't below the chord from a to b
abbrev pub IsAboveChord : Request → Request → Request → Type 0
IsAboveChord a b y =
    b.tuple.overhead * rate_of a.tuple + y.tuple.overhead * rate_of b.tuple + a.tuple.overhead
    * rate_of y.tuple
    ≤ b.tuple.overhead * rate_of y.tuple + y.tuple.overhead * rate_of a.tuple + a.tuple.overhead
    * rate_of b.tuple

-- y, whose overhead is a's or more, follows from a and its right neighbour, or from the last request of all
abbrev pub IsCoveredFrom : Request → List Request → Request → Type 0
IsCoveredFrom a [] y = (0 < a.tuple.overhead) × (rate_of a.tuple * y.tuple.overhead
    ≤ rate_of y.tuple * a.tuple.overhead)
IsCoveredFrom a (b ∷ bs) y =
    (y.tuple.overhead < b.tuple.overhead → IsAboveChord a b y)
    × (b.tuple.overhead ≤ y.tuple.overhead → IsCoveredFrom b bs y)

-- y follows from the first request, where its overhead isn't greater, or from those behind
abbrev pub IsCovered : List Request → Request → Type 0
IsCovered [] y = ⊥
IsCovered (x ∷ xs) y =
    (y.tuple.overhead ≤ x.tuple.overhead → rate_of x.tuple ≤ rate_of y.tuple)
    × (x.tuple.overhead < y.tuple.overhead → IsCoveredFrom x xs y)

-- each request forbids the pair at its place, and no live request forbids the pairs of two places
pub record HasPairs (rows kept : List Request) (pairs : List RatePair) : Type 0 where
  pub as_many : length pairs ≡ length kept
  pub forbidden : (j : ℕ) (d : Request) (p : RatePair) → j < length kept
      → Forbids (slice_index_or kept j d).tuple (slice_index_or pairs j p)
  pub one_each : (j k : ℕ) (p : RatePair) → j < k → k < length kept
      → All (λ r. Forbids r.tuple (slice_index_or pairs j p)
      → ¬ Forbids r.tuple (slice_index_or pairs k p)) rows

-- Just the announced requests, by rising overhead, with the pairs and the neighbours that their certificate shows.
pub record AnnouncesList (rows kept : List Request) : Type 0 where
  pub are_rows : All (Contains rows) kept
  pub in_order : AllPairs Follows kept
  pub announced : (r : Request) → Contains rows r → (Contains kept r ↔ IsAnnounced rows r)
  pub pairs : HasPairs rows kept (kept_pairs kept)
  pub covered : All (IsCovered kept) rows

-- The stops are none where all rows send; else they are what is announced, a row whose rate is 0 among them.
pub record HoldsStops (rows stops : List Request) : Type 0 where
  pub none : length stops ≡ 0 → All (λ r. ¬ StopsMedia r) rows
  pub announced : 0 < length stops → AnnouncesList rows stops
  pub stopped : 0 < length stops → Any StopsMedia stops

-- what is announced: the stops, or the lines where there are none
abbrev pub announced_among : List Request → List Request → List Request
announced_among [] lines = lines
announced_among (stop ∷ stops) lines = stop ∷ stops
