-- Choices among requests, and which of them bound as all do (RFC 5104, section 3.5.4.2).
use Rattle.std.specs.Prelude.{◌≢◌, ℕ, ◌<◌, ◌≤◌, ◌↔◌, List, length, All, AllPairs, slice_get}
use Rattle.std.specs.List.{filter_map}
use Rattle.tmmbr_tuple.specs.RatePair.{RatePair}
use Rattle.rate_cert.specs.declared.request.Request.{Request}
use Rattle.rate_cert.specs.Requests.{IsFeasible}

-- the requests at these places, in the order of the places
abbrev pub chosen_requests : List Request → List ℕ → List Request
chosen_requests requests places = filter_map (slice_get requests) places

-- a choice names places of the list, each once
pub record IsChoice (requests : List Request) (places : List ℕ) : Type 0 where
  pub in_range : All (λ place. place < length requests) places
  pub distinct : AllPairs (λ x y. x ≢ y) places

-- A choice is faithful if it permits exactly the pairs that all the requests permit (RFC 5104, section 3.5.4.2).
abbrev pub IsFaithful : List Request → List ℕ → Type 0
IsFaithful requests places = (p : RatePair) → 1 ≤ p.seconds
    → (IsFeasible (chosen_requests requests places) p ↔ IsFeasible requests p)

-- A choice is smallest if it is faithful and no faithful list of places is shorter.
pub record IsSmallest (requests : List Request) (places : List ℕ) : Type 0 where
  pub faithful : IsFaithful requests places
  pub fewest : (others : List ℕ) → IsFaithful requests others → length places ≤ length others
