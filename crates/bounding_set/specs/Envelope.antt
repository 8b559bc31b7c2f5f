-- The envelope of requests of positive rate: the lines that some pair is forbidden by alone, by rising overhead.
use Rattle.std.specs.Prelude.{◌≡◌, ℕ, ◌+◌, ◌*◌, ◌<◌, ◌≤◌, ◌⊎◌, List, length, All, AllPairs, Any, Contains, slice_index_or}
use Rattle.std.specs.List.{AllWithin}
use Rattle.tmmbr_tuple.specs.Tuple.{rate_of}
use Rattle.tmmbr_tuple.specs.RatePair.{RatePair, Permits}
use Rattle.rate_cert.specs.declared.request.Request.{Request}
use Rattle.rate_cert.specs.Requests.{IsFeasible}
use Rattle.bounding_set.specs.Canonical.{HasSameLine, StopsMedia}

-- the order of the walk: by overhead, then by rate, then by owner
pub record IsNotAfter (x y : Request) : Type 0 where
  pub overhead : x.tuple.overhead ≤ y.tuple.overhead
  pub rate : x.tuple.overhead ≡ y.tuple.overhead → rate_of x.tuple ≤ rate_of y.tuple
  pub owner : x.tuple.overhead ≡ y.tuple.overhead → rate_of x.tuple ≡ rate_of y.tuple
      → x.owner.0 ≤ y.owner.0

-- x has less overhead than y, and reaches farther
pub record ReachesBeyond (y x : Request) : Type 0 where
  pub overhead : x.tuple.overhead < y.tuple.overhead
  pub reach : rate_of y.tuple * x.tuple.overhead < rate_of x.tuple * y.tuple.overhead

-- y has more overhead and a greater rate than x
pub record IsBehind (x y : Request) : Type 0 where
  pub overhead : x.tuple.overhead < y.tuple.overhead
  pub rate : rate_of x.tuple < rate_of y.tuple

-- y has more overhead and a greater rate than x, and x reaches farther
pub record Crosses (x y : Request) : Type 0 where
  pub overhead : x.tuple.overhead < y.tuple.overhead
  pub rate : rate_of x.tuple < rate_of y.tuple
  pub reach : rate_of y.tuple * x.tuple.overhead < rate_of x.tuple * y.tuple.overhead

-- the line of b is below the chord from a to c: between its crossings with the two it is the lowest of the three
abbrev pub Turns : Request → Request → Request → Type 0
Turns a b c =
    c.tuple.overhead * rate_of b.tuple + b.tuple.overhead * rate_of a.tuple + a.tuple.overhead
    * rate_of c.tuple
    < c.tuple.overhead * rate_of a.tuple + b.tuple.overhead * rate_of c.tuple + a.tuple.overhead
    * rate_of b.tuple

-- lines by rising overhead, each of which is the lowest somewhere
pub record IsHull (lines : List Request) : Type 0 where
  pub crosses : AllPairs Crosses lines
  pub turns : (i j k : ℕ) (d : Request) → i < j → j < k → k < length lines
      → Turns (slice_index_or lines i d) (slice_index_or lines j d) (slice_index_or lines k d)

-- what the requests permit together, y permits (RFC 5104, section 3.5.4.2)
abbrev pub Covers : List Request → Request → Type 0
Covers lines y = (p : RatePair) → IsFeasible lines p → Permits y.tuple p

-- x stands where it is, or y took its place: then no request that the old lines cover has the line of y
abbrev pub ComesFrom : List Request → Request → Request → Type 0
ComesFrom old y x = Contains old x ⊎ ((x ≡ y) × ((z : Request) → Covers old z → ¬ HasSameLine y z))

-- if the lines cover a request with the line of x, one of them has it, too, for an owner that isn't less than that of x
abbrev pub TakesOver : List Request → Request → Type 0
TakesOver lines x =
    (z : Request) → Covers lines z → HasSameLine x z
    → Any (λ l. HasSameLine x l × (x.owner.0 ≤ l.owner.0)) lines

-- of the line of x the least owner stays: none of these lines has it for a greater owner than that of x
abbrev pub KeepsLeastOwner : List Request → Request → Type 0
KeepsLeastOwner lines x = All (λ l. HasSameLine l x → l.owner.0 ≤ x.owner.0) lines

-- The lines after x, which goes after all the old ones, was added to them, or left out: a hull that covers x and the old lines.
-- Each is an old one, or it is x, and then no request that the old lines cover has its line.
pub record IsAddedEnvelope (old : List Request) (x : Request) (new : List Request) : Type 0 where
  pub hull : IsHull new
  pub covers : Covers new x
  pub covers_old : All (Covers new) old
  pub comes_from : All (ComesFrom old x) new

-- a hull of lines that send: the rate of none is 0
pub record IsSendingHull (lines : List Request) : Type 0 where
  pub hull : IsHull lines
  pub all_send : All (λ l. ¬ StopsMedia l) lines

-- The envelope of the rows below a place: a hull of such rows which covers them, each with the least owner of its line.
pub record IsEnvelopeBelow (rows : List Request) (lines : List Request) (place : ℕ) : Type 0 where
  pub hull : IsHull lines
  pub covers : AllWithin (Covers lines) rows 0 place
  pub are_rows : All (Contains rows) lines
  pub least_owner : All
      (λ x. AllWithin (λ y. HasSameLine x y → x.owner.0 ≤ y.owner.0) rows 0 place) lines

-- the envelope of all rows: a hull that covers them, each line with its least owner (RFC 5104, section 3.5.4.2)
abbrev pub IsEnvelope : List Request → List Request → Type 0
IsEnvelope rows lines = IsEnvelopeBelow rows lines (length rows)

-- The envelope of those rows whose rate isn't 0: a hull of such rows which covers them, each with the least owner of its
-- line (RFC 5104, section 3.5.4.2).
pub record IsEnvelopeOf (rows lines : List Request) : Type 0 where
  pub hull : IsHull lines
  pub covers : All (λ r. ¬ StopsMedia r → Covers lines r) rows
  pub are_rows : All (Contains rows) lines
  pub send : All (λ l. ¬ StopsMedia l) lines
  pub least_owner : All (λ x. All (λ y. HasSameLine x y → x.owner.0 ≤ y.owner.0) rows) lines
