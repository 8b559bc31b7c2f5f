-- A line that is put into an envelope, and the tests that it takes.
use Rattle.std.specs.Prelude.{◌≡◌, ℕ, ◌+◌, ◌-◌, ◌*◌, ◌^◌, ◌<◌, ◌≤◌, Bool, false, IsTrue, List, ◌∷◌, ◌++◌, length, take, drop, All}
use Rattle.tmmbr_tuple.specs.declared.tuple.Tuple.{Tuple}
use Rattle.tmmbr_tuple.specs.Tuple.{rate_of}
use Rattle.tmmbr_tuple.specs.RatePair.{RatePair, Permits}
use Rattle.rate_cert.specs.declared.request.Request.{Request}
use Rattle.rate_cert.specs.declared.certificate.TheConstants.{MAX_REQUESTS}
use Rattle.bounding_set.specs.Envelope.{IsHull, Covers, TakesOver, KeepsLeastOwner}

-- two tuples imply a third if it permits each pair, of at least one second, that both permit
abbrev pub ImplyTogether : Tuple → Tuple → Tuple → Type 0
ImplyTogether a b x = (p : RatePair) → 1 ≤ p.seconds → Permits a p → Permits b p → Permits x p

-- one tuple implies another where that permits all that it permits, three numbers without time too, which are no pair
abbrev pub ImpliesAlone : Tuple → Tuple → Type 0
ImpliesAlone a x = (p : RatePair) → Permits a p → Permits x p

-- the overhead of x is between those of a and b, and its line isn't below the chord from a to b
pub record StandsAbove (a b x : Tuple) : Type 0 where
  pub more : a.overhead < x.overhead
  pub less : x.overhead < b.overhead
  pub above : b.overhead * rate_of a + x.overhead * rate_of b + a.overhead * rate_of x
      ≤ b.overhead * rate_of x + x.overhead * rate_of a + a.overhead * rate_of b

-- x stands behind the first lines, up to `low`, and before the last ones, from `high` on; those between are dropped. Each of
-- these but one of the overhead of x is tested, and the tests are at most four more than these
pub record IsSpliced (old : List Request) (x : Request) (new : List Request)
    (tests : ℕ) : Type 0 where
  pub low : ℕ
  pub high : ℕ
  pub rising : low ≤ high
  pub in_range : high ≤ length old
  pub is : new ≡ take low old ++ x ∷ drop high old
  pub each_tested : high - low ≤ tests + 1
  pub few_tests : tests ≤ (high - low) + 4

-- there is room for one more line, and for the tests that it may take in a count of 32 bits
pub record HasRoomToSplice (lines : List Request) (count : ℕ) : Type 0 where
  pub room : length lines < MAX_REQUESTS
  pub countable : count + length lines + 4 < 2 ^ 32

-- The lines after x was put among them, or left out: a hull that covers x and all the old lines, with no greater owner of its
-- line. If x was left out, nothing changed. If it was put in, it took the place of what it makes needless, and if the old lines
-- had or covered its line, one of them had it for no lesser owner.
pub record IsSplicedEnvelope (old : List Request) (x : Request) (put : Bool)
    (new : List Request) (tests : ℕ) : Type 0 where
  pub unchanged : put ≡ false → new ≡ old
  pub spliced : IsTrue put → IsSpliced old x new tests
  pub hull : IsHull new
  pub covers : Covers new x
  pub covers_old : All (Covers new) old
  pub least : KeepsLeastOwner new x
  pub least_new : IsTrue put → TakesOver old x
