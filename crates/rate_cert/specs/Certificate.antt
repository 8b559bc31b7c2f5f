-- When a certificate holds of a list of requests.
use Rattle.std.specs.Prelude.{◌≡◌, ℕ, ◌+◌, ◌*◌, ◌<◌, ◌≤◌, List, ◌++◌, length, map, All, AllPairs, Contains, EachIndex, slice_index_or}
use Rattle.std.specs.List.{HoldsAt}
use Rattle.tmmbr_tuple.specs.Tuple.{rate_of}
use Rattle.tmmbr_tuple.specs.RatePair.{Forbids, pair_of}
use Rattle.rate_cert.specs.declared.request.Request.{Request}
use Rattle.rate_cert.specs.declared.certificate.Kept.{Kept}
use Rattle.rate_cert.specs.declared.certificate.Implied.{Implied}
use Rattle.rate_cert.specs.declared.certificate.Cert.{Cert}
use Rattle.rate_cert.specs.Choice.{IsChoice}

-- the places of kept entries, and all places that a certificate of these entries names
abbrev pub places_of : List Kept → List ℕ
places_of kept = map (λ k. k.place) kept

abbrev pub named_places : List Kept → List Implied → List ℕ
named_places kept implied = places_of kept ++ map (λ i. i.place) implied

-- the choice that a certificate speaks of
abbrev pub kept_places : Cert → List ℕ
kept_places cert = places_of cert.kept.items

-- both neighbours of an implied entry are among these places
abbrev pub HasNeighbours : List ℕ → Implied → Type 0
HasNeighbours places i = Contains places i.a × Contains places i.b

-- 1: The places are places of requests, none is named twice, and neighbours are kept.
pub record HasPlaces (requests : List Request) (kept : List Kept)
    (implied : List Implied) : Type 0 where
  pub named : IsChoice requests (named_places kept implied)
  pub neighbours : All (HasNeighbours (places_of kept)) implied

-- 2: Each kept request forbids its pair.
abbrev pub ForbidsItsPair : List Request → Kept → Type 0
ForbidsItsPair requests k = HoldsAt (λ r. Forbids r.tuple (pair_of k.pair)) requests k.place

-- 3: Of the kept entries' pairs a request forbids one at most.
abbrev pub ForbidsOnePair : List Kept → Request → Type 0
ForbidsOnePair kept r =
    AllPairs (λ j k. Forbids r.tuple (pair_of j.pair) → ¬ Forbids r.tuple (pair_of k.pair)) kept

abbrev pub ForbidsOnePairAt : List Request → List Kept → ℕ → Type 0
ForbidsOnePairAt requests kept place = HoldsAt (ForbidsOnePair kept) requests place

-- 4: An implied request r follows from its neighbours: p times a and q times b have no less of a pair's media and
-- headers than r times the request, and no more rate.
pub record Implies (a b r : Request) (i : Implied) : Type 0 where
  pub some : 1 ≤ i.r
  pub media : i.r ≤ i.p + i.q
  pub headers : i.r * r.tuple.overhead ≤ i.p * a.tuple.overhead + i.q * b.tuple.overhead
  pub rate : i.p * rate_of a.tuple + i.q * rate_of b.tuple ≤ i.r * rate_of r.tuple

abbrev pub IsImplied : List Request → Implied → Type 0
IsImplied requests i = (d : Request)
    → Implies (slice_index_or requests i.a d) (slice_index_or requests i.b d)
    (slice_index_or requests i.place d) i

abbrev pub IsImpliedIfAt : List Request → ℕ → Implied → Type 0
IsImpliedIfAt requests place i = i.place ≡ place → IsImplied requests i

abbrev pub IsImpliedAt : List Request → List Implied → ℕ → Type 0
IsImpliedAt requests implied place = All (IsImpliedIfAt requests place) implied

-- the places of an implied entry are places of requests
pub record IsInRange (requests : List Request) (i : Implied) : Type 0 where
  pub place : i.place < length requests
  pub a : i.a < length requests
  pub b : i.b < length requests

-- 5: A request is kept or implied.
abbrev pub IsNamed : List Kept → List Implied → ℕ → Type 0
IsNamed kept implied place = Contains (named_places kept implied) place

-- The certificate holds if all five conditions do.
pub record MeetsConditions (requests : List Request) (kept : List Kept)
    (implied : List Implied) : Type 0 where
  pub places : HasPlaces requests kept implied
  pub forbidden : All (ForbidsItsPair requests) kept
  pub one_each : EachIndex requests (ForbidsOnePairAt requests kept)
  pub implications : EachIndex requests (IsImpliedAt requests implied)
  pub complete : EachIndex requests (IsNamed kept implied)

-- the certificate meets the five conditions for these requests
abbrev pub IsCertified : List Request → Cert → Type 0
IsCertified requests cert = MeetsConditions requests cert.kept.items cert.implied.items
