-- The datagram by which the unit leaves an endpoint (RFC 3550, sections 6.1 and 6.6).
use Rattle.std.specs.Prelude.{ℕ, Bool, true, ◌≡◌, ◌==◌, ◌++◌, List, [], ◌∷◌, All, Option, Some, slice_get, if◌then◌else◌}
use Rattle.std.specs.List.{flat_map}
use Rattle.rtcp_compound.specs.Grammar.{packet_bytes}
use Rattle.rtcp_compound.specs.Written.{bye_packet}
use Rattle.settings.specs.Settings.{Configuration}
use Rattle.settings.specs.declared.settings.LegSettings.{LegSettings}
use Rattle.desk_calls.specs.Head.{report_head}
use Rattle.ports.specs.Outside.{Grows}
use Rattle.ports.specs.declared.datagram.Datagram.{Datagram}

abbrev pub goodbye_packet : ℕ → List ℕ
goodbye_packet source = packet_bytes (bye_packet (source ∷ []))

-- a leg to the endpoint ends with the source that it has there
abbrev pub leg_goodbye : ℕ → LegSettings → List ℕ
leg_goodbye endpoint leg =
    if leg.subscriber == endpoint then goodbye_packet leg.out_ssrc.0 else []

-- the datagram by which the unit leaves an endpoint: what each compound begins with, a BYE of each leg
-- to the endpoint, and the unit's own (RFC 3550, section 6.6)
abbrev pub goodbye_bytes : Configuration → ℕ → List ℕ
goodbye_bytes c endpoint =
    report_head (record { ssrc = c.unit_ssrc.0; cname = c.cname })
    ++ (flat_map (leg_goodbye endpoint) c.legs ++ goodbye_packet c.unit_ssrc.0)

-- ---- what is said as it leaves

-- a datagram by which the unit leaves an endpoint
pub record IsGoodbyeOf (c : Configuration) (endpoint : ℕ) (d : Datagram) : Type 0 where
  pub to_it : d.endpoint ≡ endpoint
  pub goodbye : d.bytes ≡ goodbye_bytes c endpoint

-- The sink was handed goodbyes of this endpoint alone.
pub record LeavesEndpoint (c : Configuration) (endpoint : ℕ) (old new : Option (List Datagram)) : Type 0 where
  pub sent : List Datagram
  pub goodbyes : All (IsGoodbyeOf c endpoint) sent
  pub handed : Grows old sent new

-- one of an endpoint that is present
pub record IsGoodbyeToPresent (c : Configuration) (present : List Bool) (d : Datagram) : Type 0 where
  pub there : slice_get present d.endpoint ≡ Some true
  pub goodbye : d.bytes ≡ goodbye_bytes c d.endpoint

-- The sink was handed goodbyes of endpoints that are present, each its own, and nothing else.
pub record LeavesPresent (c : Configuration) (present : List Bool) (old new : Option (List Datagram)) : Type 0 where
  pub sent : List Datagram
  pub goodbyes : All (IsGoodbyeToPresent c present) sent
  pub handed : Grows old sent new
