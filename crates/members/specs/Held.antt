-- What always holds of a room's fields.
use Rattle.std.specs.Prelude.{◌≡◌, ℕ, ◌<◌, ◌≤◌, List, length}
use Rattle.members.specs.declared.presence.Endpoint.{Endpoint}
use Rattle.members.specs.declared.stays.LegStay.{LegStay}
use Rattle.members.specs.declared.stays.TheConstants.{MAX_STAY}
use Rattle.settings.specs.declared.limits.TheConstants.{MAX_LEGS}
use Rattle.members.specs.Presence.{NobodyOverdue}
use Rattle.members.specs.Reception.{Heard}

-- no endpoint is overdue before this moment
abbrev pub IsQuietUntil : ℕ → ℕ → List Endpoint → Type 0
IsQuietUntil timeout until endpoints = (moment : ℕ) → moment < until
    → NobodyOverdue timeout moment endpoints

pub record IsWellFormed (timeout next until : ℕ) (endpoints : List Endpoint) (legs : List LegStay)
    (draft_endpoints : List Endpoint) (draft_legs : List LegStay)
    (receptions : List Heard) : Type 0 where
  pub few : length legs ≤ MAX_LEGS
  pub numbered : next ≤ MAX_STAY
  pub quiet : IsQuietUntil timeout until endpoints
  pub same_endpoints : length draft_endpoints ≡ length endpoints
  pub same_legs : length draft_legs ≡ length legs
  pub received : length receptions ≡ length endpoints
