-- What of what an endpoint asks for is left: all but rates of publishers that aren't there (RFC 5104, section 4.2.1).
use Rattle.std.specs.Prelude.{ℕ, not, Bool, false, Option, None, Some, slice_get}
use Rattle.members.specs.Room.{RoomState}
use Rattle.settings.specs.Links.{LinkTable}
use Rattle.settings.specs.declared.settings.LegSettings.{LegSettings}
use Rattle.datagram.specs.declared.reading.Ask.{Ask}
use Rattle.policy.specs.Presence.{is_there}
use Rattle.policy.specs.Requests.{asked_by}
use Rattle.policy.specs.declared.asking.Asker.{Asker}

-- who is sent what, who is there, who asks, and when
pub record Asking : Type 0 where
  pub table : LinkTable
  pub room : RoomState
  pub endpoint : ℕ
  pub moment : ℕ

abbrev pub asking : Asker → Asking
asking a = record {
  table = a.view.links.now;
  room = a.view.room.now;
  endpoint = a.endpoint;
  moment = a.moment;
}

-- the publisher of a leg isn't there
abbrev pub is_moot_leg : Asking → Option LegSettings → Bool
is_moot_leg a None = false
is_moot_leg a (Some leg) = not (is_there a.room leg.publisher a.moment)

abbrev pub is_moot_on : Asking → Option (ℕ × ℕ) → Bool
is_moot_on a None = false
is_moot_on a (Some asked) = is_moot_leg a (slice_get a.table.legs asked.0)

-- the ask is for a rate, on a leg to who asks whose publisher isn't there (RFC 5104, section 4.2.1)
abbrev pub is_moot : Asking → Ask → Bool
is_moot a ask = is_moot_on a (asked_by a.table a.endpoint ask)

abbrev pub is_left : Asking → Ask → Bool
is_left a ask = not (is_moot a ask)
