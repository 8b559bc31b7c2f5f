-- Who is there, by the room as it is.
use Rattle.std.specs.Prelude.{ℕ, Bool, max}
use Rattle.members.specs.Presence.{is_present_at}
use Rattle.members.specs.Room.{RoomState, after_leaving}

-- the endpoint is present once those left that are overdue at this moment, or at the room's own if that is
-- later (RFC 3550, section 6.3.5)
unfoldable pub is_there : RoomState → ℕ → ℕ → Bool
is_there room endpoint moment =
    is_present_at (after_leaving room (max room.moment moment)).endpoints endpoint
