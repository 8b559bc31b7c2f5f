-- What the ingress hands to its driver.
use Rattle.std.specs.Prelude.{◌≡◌, ℕ, List, [], ◌∷◌, Option, None, Some}
use Rattle.members.specs.Presence.{source_at}
use Rattle.members.specs.Reception.{Block}
use Rattle.members.specs.Room.{new_room, reception_at, after_block}
use Rattle.settings.specs.Settings.{Configuration}
use Rattle.members.specs.Stream.{IsBlockAnswer}
use Rattle.core_steps.specs.declared.duties.Duty.{Duty}
use Rattle.core_steps.specs.declared.duties.Duty.TheVariants.{Order, Push, Pulse, Expire, Report}
use Rattle.desk_calls.specs.Head.{blocks_of, report_bytes}
use Rattle.core_steps.specs.Opening.{first_round, setup_by}
use Rattle.core_steps.specs.World.{Task, order, push, pulse, expire, report, WorldState}

-- nobody is present, nothing waits, and nothing was done yet; there are no desks, rows or workers
abbrev pub new_ingress : Configuration → WorldState
new_ingress c = record {
  setup = setup_by c;
  room = new_room c;
  tasks = [];
  pending = None;
  desks = [];
  rows = [];
  workers = [];
  round = first_round;
  lost = 0;
  tmmbns = 0;
}

-- the task that a duty is
abbrev pub task_by : Duty → Task
task_by (Order o) = order o
task_by (Push worker job) = push worker job
task_by (Pulse publisher) = pulse publisher
task_by (Expire publisher) = expire publisher
task_by (Report publisher) = report publisher

-- the oldest task is the duty, waits no more, and nothing else changed
abbrev pub HandsOut : WorldState → WorldState → Option Duty → Type 0
HandsOut old new None = (old.tasks ≡ []) × (new ≡ old)
HandsOut old new (Some duty) =
    (old.tasks ≡ task_by duty ∷ new.tasks) × (new ≡ record old { tasks = new.tasks })

-- a report to the publisher at the room's moment, with the block about it, if a packet of it was
-- received (RFC 3550, section 6.4.2)
pub record Reports (old : WorldState) (p : ℕ) (new : WorldState) (bytes : List ℕ) : Type 0 where
  pub block : Option Block
  pub answer : IsBlockAnswer (reception_at old.room p) old.room.moment
      (source_at old.room.endpoints p) block
  pub datagram : bytes ≡ report_bytes old.setup.unit (blocks_of block)
  pub room : new ≡ record old { room = after_block old.room p }
