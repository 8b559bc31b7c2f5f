-- Which endpoints of a room are present.
use Rattle.std.specs.Prelude.{◌≡◌, All, ℕ, ◌+◌, nat_le, Bool, false, List, Option, is_some, slice_get, slice_set}
use Rattle.std.specs.Option.{option_map_or}
use Rattle.tmmbr_tuple.specs.declared.ssrc.Ssrc.{Ssrc}
use Rattle.members.specs.declared.presence.Endpoint.{Endpoint}

-- it was last heard as long ago as the timeout, or longer: the moment less that of the hear is no less than the timeout
abbrev pub is_overdue : ℕ → ℕ → Endpoint → Bool
is_overdue timeout moment e = option_map_or (λ heard. nat_le (heard + timeout) moment) e.heard false

-- no endpoint is overdue at this moment
abbrev pub NobodyOverdue : ℕ → ℕ → List Endpoint → Type 0
NobodyOverdue timeout moment endpoints = All (λ e. is_overdue timeout moment e ≡ false) endpoints

-- the endpoint of this number is there, and overdue
unfoldable pub is_overdue_at : ℕ → ℕ → List Endpoint → ℕ → Bool
is_overdue_at timeout moment endpoints number =
    option_map_or (is_overdue timeout moment) (slice_get endpoints number) false

-- the endpoint of this number is there, and present
unfoldable pub is_present_at : List Endpoint → ℕ → Bool
is_present_at endpoints number =
    option_map_or (λ (e : Endpoint). is_some e.heard) (slice_get endpoints number) false

-- the source of the endpoint of this number
unfoldable pub source_at : List Endpoint → ℕ → Ssrc
source_at endpoints number =
    option_map_or (λ (e : Endpoint). e.ssrc) (slice_get endpoints number) (record { 0 = 0 })

-- the endpoint of this number was last heard then, or is absent
abbrev pub with_heard : List Endpoint → ℕ → Option ℕ → List Endpoint
with_heard endpoints number heard =
    slice_set endpoints number (record { ssrc = source_at endpoints number; heard = heard })
