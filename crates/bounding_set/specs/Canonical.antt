-- The one set that is announced for live requests (RFC 5104, section 3.5.4.2, with this project's own
-- ties and rates of 0).
use Rattle.std.specs.Prelude.{◌≡◌, ℕ, ◌*◌, ◌<◌, ◌≤◌, ◌↔◌, ◌⊎◌, List, length, All, Any, AllPairs, Contains, slice_index_or}
use Rattle.std.specs.List.{HoldsAt}
use Rattle.tmmbr_tuple.specs.Tuple.{rate_of}
use Rattle.tmmbr_tuple.specs.RatePair.{RatePair, Permits, Forbids}
use Rattle.rate_cert.specs.declared.request.Request.{Request}
use Rattle.rate_cert.specs.Choice.{IsChoice}

-- Two requests are one line by equal rates, however these are spelled, and equal overheads.
pub record HasSameLine (x y : Request) : Type 0 where
  pub rate : rate_of x.tuple ≡ rate_of y.tuple
  pub overhead : x.tuple.overhead ≡ y.tuple.overhead

-- a rate of 0, with any overhead: no media is permitted
abbrev pub StopsMedia : Request → Type 0
StopsMedia r = rate_of r.tuple ≡ 0

-- a rate of 0 with overhead: nothing at all is permitted
abbrev pub StopsEverything : Request → Type 0
StopsEverything r = StopsMedia r × (0 < r.tuple.overhead)

-- Of the requests that stop everything, one with the greatest overhead, and of several of these the least owner's.
pub record IsStrictestStop (requests : List Request) (x : Request) : Type 0 where
  pub stops : StopsEverything x
  pub greatest : All (λ y. StopsEverything y → y.tuple.overhead ≤ x.tuple.overhead) requests
  pub least_owner : All (λ y. StopsEverything y → x.tuple.overhead ≡ y.tuple.overhead
      → x.owner.0 ≤ y.owner.0) requests

-- Of the requests that stop the media, where none stops everything, the one of least owner.
pub record IsFirstStop (requests : List Request) (x : Request) : Type 0 where
  pub stops : StopsMedia x
  pub none_stops_everything : All (λ y. ¬ StopsEverything y) requests
  pub least_owner : All (λ y. StopsMedia y → x.owner.0 ≤ y.owner.0) requests

-- x forbids packets without media no later than y does: its rate over its overhead isn't greater
abbrev pub ReachesNoFarther : Request → Request → Type 0
ReachesNoFarther x y = rate_of x.tuple * y.tuple.overhead ≤ rate_of y.tuple * x.tuple.overhead

abbrev pub ReachesAsFar : Request → Request → Type 0
ReachesAsFar x y = rate_of x.tuple * y.tuple.overhead ≡ rate_of y.tuple * x.tuple.overhead

-- Beside a stop of the media: of the requests with overhead the one of least reach (rate over overhead), then of
-- least overhead, then of least owner.
pub record IsLeastReach (requests : List Request) (x : Request) : Type 0 where
  pub media_stopped : Any StopsMedia requests
  pub none_stops_everything : All (λ y. ¬ StopsEverything y) requests
  pub has_overhead : 0 < x.tuple.overhead
  pub least : All (λ y. 0 < y.tuple.overhead → ReachesNoFarther x y) requests
  pub least_overhead : All
      (λ y. 0 < y.tuple.overhead → ReachesAsFar x y → x.tuple.overhead ≤ y.tuple.overhead) requests
  pub least_owner : All (λ y. 0 < y.tuple.overhead → ReachesAsFar x y
      → x.tuple.overhead ≡ y.tuple.overhead → x.owner.0 ≤ y.owner.0) requests

-- A line is essential where it forbids some pair that all requests of other lines permit.
pub record IsEssential (requests : List Request) (x : Request) : Type 0 where
  pub pair : RatePair
  pub some_time : 1 ≤ pair.seconds
  pub forbidden : Forbids x.tuple pair
  pub permitted : All (λ y. ¬ HasSameLine x y → Permits y.tuple pair) requests

-- Where nothing is stopped, each essential line is kept by its least owner.
pub record IsEssentialOwner (requests : List Request) (x : Request) : Type 0 where
  pub none_stopped : All (λ y. ¬ StopsMedia y) requests
  pub essential : IsEssential requests x
  pub least_owner : All (λ y. HasSameLine x y → x.owner.0 ≤ y.owner.0) requests

-- What is announced. If everything is stopped: the stop of greatest overhead. If just the media is: that stop, and
-- the request of least reach. Else each essential line, by its least owner.
abbrev pub IsAnnounced : List Request → Request → Type 0
IsAnnounced requests x =
    IsStrictestStop requests x ⊎ IsFirstStop requests x ⊎ IsLeastReach requests x
    ⊎ IsEssentialOwner requests x

-- The canonical choice has the places of just the announced requests, listed by rising overhead.
pub record IsCanonical (requests : List Request) (places : List ℕ) : Type 0 where
  pub choice : IsChoice requests places
  pub rising : (d : Request)
      → AllPairs (λ i j. (slice_index_or requests i d).tuple.overhead
      < (slice_index_or requests j d).tuple.overhead) places
  pub announced : (place : ℕ) → place < length requests
      → (Contains places place ↔ HoldsAt (IsAnnounced requests) requests place)
