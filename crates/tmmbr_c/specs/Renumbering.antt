-- A list of requests in another order: what is announced for it, with the places of the other list.
use Rattle.std.specs.Prelude.{◌≡◌, ℕ, ◌<◌, List, length, All, slice_index_or}
use Rattle.rate_cert.specs.declared.request.Request.{Request}
use Rattle.rate_cert.specs.declared.certificate.Kept.{Kept}
use Rattle.rate_cert.specs.declared.certificate.Implied.{Implied}
use Rattle.rate_cert.specs.Choice.{IsSmallest, chosen_requests}
use Rattle.rate_cert.specs.Certificate.{MeetsConditions, places_of}
use Rattle.bounding_set.specs.Canonical.{IsCanonical}
use Rattle.bounding_set.specs.Certificate.{kept_pairs, implied_by}
use Rattle.bounding_set.specs.Kept.{pairs_of, listed_of}
use Rattle.tmmbr_c.specs.declared.order.OwnerPlace.{OwnerPlace}

-- The entries announce the canonical choice of the requests (RFC 5104, section 3.5.4.2). It permits
-- what they together permit, and no smaller choice does. The entries are those of the certificate
-- that is given for it, the implied ones in any order, and show so.
pub record AnnouncesEntries (requests : List Request) (kept : List Kept)
    (implied : List Implied) : Type 0 where
  pub canonical : IsCanonical requests (places_of kept)
  pub smallest : IsSmallest requests (places_of kept)
  pub certified : MeetsConditions requests kept implied
  pub pairs : pairs_of kept ≡ kept_pairs (chosen_requests requests (places_of kept))
  pub neighbours : (d : Request) → All (λ i. i ≡ implied_by (listed_of requests d kept) i.place
      (slice_index_or requests i.place d).tuple.overhead) implied

-- the second list has the requests of the first in another order: its place k is place `at k` of the
-- first
pub record Reorders (requests rows : List Request) (at : ℕ → ℕ) : Type 0 where
  pub in_range : (k : ℕ) → k < length rows → at k < length requests
  pub same : (k : ℕ) (d : Request) → k < length rows
      → slice_index_or requests (at k) d ≡ slice_index_or rows k d
  pub apart : (j k : ℕ) → j < length rows → k < length rows → at j ≡ at k → j ≡ k
  pub onto : (place : ℕ) → place < length requests
      → (k : ℕ) × (k < length rows) × (at k ≡ place)

-- the places of an implied entry are numbers of owners
pub record IsMovable (order : List OwnerPlace) (i : Implied) : Type 0 where
  pub place : i.place < length order
  pub a : i.a < length order
  pub b : i.b < length order

-- the same entry for the place that each of its places has in the first list
abbrev pub moved_kept : (ℕ → ℕ) → Kept → Kept
moved_kept at k = record { place = at k.place; pair = k.pair }

-- the same of an implied entry and its three places
abbrev pub moved_implied : (ℕ → ℕ) → Implied → Implied
moved_implied at i =
    record { place = at i.place; a = at i.a; b = at i.b; p = i.p; q = i.q; r = i.r }
