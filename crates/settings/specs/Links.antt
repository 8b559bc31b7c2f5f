-- The legs as they are set up.
use Rattle.std.specs.Prelude.{◌==◌, ◌&&◌, ℕ, ◌%◌, ◌≤◌, List, [], ◌∷◌, length, All, Option, None, Some, slice_index_or, if◌then◌else◌}
use Rattle.std.specs.List.{enumerate_from}
use Rattle.tmmbr_tuple.specs.declared.ssrc.Ssrc.{Ssrc}
use Rattle.settings.specs.declared.settings.LegSettings.{LegSettings}
use Rattle.settings.specs.declared.limits.TheConstants.{MAX_ENDPOINTS, MAX_LEGS, MAX_WORKERS}
use Rattle.settings.specs.Settings.{Configuration, IsLegAmong}

-- how many workers there are, the source of each endpoint, the name that is said of what it publishes, and the legs, by their
-- numbers (RFC 7667, section 3.7)
pub record LinkTable : Type 0 where
  pub workers : ℕ
  pub endpoints : List Ssrc
  pub cnames : List (List ℕ)
  pub legs : List LegSettings

abbrev pub table_of : Configuration → LinkTable
table_of c = record {
  workers = c.workers;
  endpoints = c.endpoints;
  cnames = c.cnames;
  legs = c.legs;
}

-- the canonical name that is said of what an endpoint publishes; empty if there is no such endpoint (RFC 3550, section 6.5.1)
abbrev pub cname_of : LinkTable → ℕ → List ℕ
cname_of t endpoint = slice_index_or t.cnames endpoint []

-- what always holds of a table
pub record IsLinkTable (t : LinkTable) : Type 0 where
  pub least_workers : 1 ≤ t.workers
  pub most_workers : t.workers ≤ MAX_WORKERS
  pub most_endpoints : length t.endpoints ≤ MAX_ENDPOINTS
  pub most_legs : length t.legs ≤ MAX_LEGS
  pub legs : All (IsLegAmong (length t.endpoints)) t.legs

abbrev pub numbered_legs : LinkTable → List (ℕ × LegSettings)
numbered_legs t = enumerate_from 0 t.legs

-- the numbers of those of these legs that are of this publisher
abbrev pub leg_numbers_of : ℕ → List (ℕ × LegSettings) → List ℕ
leg_numbers_of publisher [] = []
leg_numbers_of publisher (e ∷ es) =
    if e.1.publisher == publisher then e.0 ∷ leg_numbers_of publisher es
    else leg_numbers_of publisher es

-- the numbers of the legs of this publisher, rising
abbrev pub legs_of : LinkTable → ℕ → List ℕ
legs_of t publisher = leg_numbers_of publisher (numbered_legs t)

-- the number of the first of these legs on which this subscriber is sent this source
abbrev pub first_to : ℕ → ℕ → List (ℕ × LegSettings) → Option ℕ
first_to subscriber source [] = None
first_to subscriber source (e ∷ es) =
    if (e.1.subscriber == subscriber && e.1.out_ssrc.0 == source) then Some e.0
    else first_to subscriber source es

-- the number of the leg on which this subscriber is sent this source (RFC 7667, section 3.7)
abbrev pub leg_to : LinkTable → ℕ → ℕ → Option ℕ
leg_to t subscriber source = first_to subscriber source (numbered_legs t)

-- the worker that owns a leg: workers take subscribers in turn
abbrev pub worker_of : LinkTable → LegSettings → ℕ
worker_of t leg = leg.subscriber % t.workers
