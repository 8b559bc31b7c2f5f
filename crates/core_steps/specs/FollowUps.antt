-- What follows from a datagram or a moment, as the ingress keeps it: each follow-up is a task of the machine, once the bytes of the
-- datagram are known.
use Rattle.std.specs.Prelude.{◌≡◌, ℕ, List, ◌++◌, map, filter, Option, None, Some, option_map}
use Rattle.members.specs.Presence.{is_present_at}
use Rattle.members.specs.Room.{RoomState, after_report}
use Rattle.core_steps.specs.declared.ticking.Due.{Due}
use Rattle.core_steps.specs.declared.ticking.Due.TheVariants as due
use Rattle.core_steps.specs.declared.tasks.FollowUp.{FollowUp}
use Rattle.core_steps.specs.Hearing.{numbers_below}
use Rattle.core_steps.specs.Machine.{task_of}
use Rattle.core_steps.specs.World.{Task, pulse, expire}

-- the follow-up is this task, whatever bytes the datagram has; or there is neither
abbrev pub IsTask : Option FollowUp → Option Task → Type 0
IsTask next task = (bytes : List ℕ) → option_map (task_of bytes) next ≡ task

-- these tasks, in which the bytes of the datagram may stand, came after those that waited
abbrev pub AddsTasks : List FollowUp → List FollowUp → (List ℕ → List Task) → Type 0
AddsTasks before after tasks =
    (bytes : List ℕ) → map (task_of bytes) after ≡ map (task_of bytes) before ++ tasks bytes

-- what is due to an endpoint
abbrev pub task_due : Due → ℕ → Task
task_due due.Pulse = pulse
task_due due.Expire = expire

-- what is due to those present of so many endpoints
abbrev pub tasks_due : Due → RoomState → ℕ → List Task
tasks_due d r endpoints =
    map (task_due d) (filter (is_present_at r.endpoints) (numbers_below endpoints))

-- the room with this sender report of the endpoint, if there is one
abbrev pub room_with_report : RoomState → ℕ → Option (ℕ × ℕ) → RoomState
room_with_report r endpoint None = r
room_with_report r endpoint (Some t) = after_report r endpoint t.0 t.1
