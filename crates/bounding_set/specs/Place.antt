-- Where a line stands among those of an envelope, and what it makes needless there.
use Rattle.std.specs.Prelude.{◌≡◌, ℕ, ◌<◌, ◌≤◌, List, length, slice_index_or}
use Rattle.std.specs.List.{AllWithin}
use Rattle.tmmbr_tuple.specs.RatePair.{RatePair, Permits}
use Rattle.rate_cert.specs.declared.request.Request.{Request}
use Rattle.rate_cert.specs.Requests.{IsFeasible}
use Rattle.bounding_set.specs.Envelope.{IsNotAfter, ReachesBeyond, IsBehind, Crosses, Turns, TakesOver}

-- lines of less overhead than x stand before `at`, and those of more from `from` on
pub record IsPlaceOf (lines : List Request) (x : Request) (at from : ℕ) : Type 0 where
  pub rising : at ≤ from
  pub in_range : from ≤ length lines
  pub before : AllWithin (λ l. l.tuple.overhead < x.tuple.overhead) lines 0 at
  pub same : AllWithin (λ l. l.tuple.overhead ≡ x.tuple.overhead) lines at from
  pub behind : AllWithin (λ l. x.tuple.overhead < l.tuple.overhead) lines from (length lines)

-- x is below the lines somewhere, or goes before the one with its overhead: the lines before it reach farther, those behind
-- have greater rates, it turns between any two, and a covered request has its line only where a line of no lesser owner has it
pub record IsNeededAt (lines : List Request) (x : Request) (at from : ℕ) : Type 0 where
  pub beyond : AllWithin (ReachesBeyond x) lines 0 at
  pub behind : AllWithin (IsBehind x) lines from (length lines)
  pub first : AllWithin (IsNotAfter x) lines at from
  pub turns : (i j : ℕ) (d : Request) → i < at → from ≤ j → j < length lines
      → Turns (slice_index_or lines i d) x (slice_index_or lines j d)
  pub new : TakesOver lines x

-- x in place of the lines from `low` to `high`: they follow from it and the others, which it crosses and turns with
pub record StandsFor (lines : List Request) (x : Request) (low high : ℕ) : Type 0 where
  pub rising : low ≤ high
  pub in_range : high ≤ length lines
  pub covers : (p : RatePair) → AllWithin (λ l. Permits l.tuple p) lines 0 low → Permits x.tuple p
      → AllWithin (λ l. Permits l.tuple p) lines high (length lines) → IsFeasible lines p
  pub before : AllWithin (λ l. Crosses l x) lines 0 low
  pub behind : AllWithin (Crosses x) lines high (length lines)
  pub turns_before : (i j : ℕ) (d : Request) → i < j → j < low
      → Turns (slice_index_or lines i d) (slice_index_or lines j d) x
  pub turns : (i j : ℕ) (d : Request) → i < low → high ≤ j → j < length lines
      → Turns (slice_index_or lines i d) x (slice_index_or lines j d)
  pub turns_behind : (i j : ℕ) (d : Request) → high ≤ i → i < j → j < length lines
      → Turns x (slice_index_or lines i d) (slice_index_or lines j d)

-- x in place of the lines from `low` to `high`, those of its overhead, which are from `at` to `from`, among them
pub record StandsAround (lines : List Request) (x : Request) (at from low high : ℕ) : Type 0 where
  pub stands : StandsFor lines x low high
  pub before : low ≤ at
  pub behind : from ≤ high
