-- The world that settings open.
use Rattle.std.specs.Prelude.{◌≡◌, ℕ, List, [], length, All, None, slice_get, Some}
use Rattle.settings.specs.Settings.{Configuration}
use Rattle.members.specs.Room.{new_room}
use Rattle.desk.specs.State.{DeskState, HoldsLegalDesk}
use Rattle.desk.specs.Trace.{empty_base}
use Rattle.members.specs.Rows.{opening_rows}
use Rattle.settings.specs.Links.{table_of}
use Rattle.legs.specs.Legs.{new_legs}
use Rattle.core_steps.specs.declared.rounds.Round.{Round}
use Rattle.core_steps.specs.World.{Setup, WorkerState, WorldState, free}

abbrev pub setup_by : Configuration → Setup
setup_by c = record {
  table = table_of c;
  unit = record { ssrc = c.unit_ssrc.0; cname = c.cname };
  request_ms = c.request_ms;
  report_ms = c.report_ms;
  report_slots = c.report_slots;
  rules = c.rules;
}

-- the first round of reports begins at moment 0
abbrev pub first_round : Round
first_round = record { began = 0; done = 0 }

-- no call was recorded
pub record IsNewDesk (c : Configuration) (d : DeskState) : Type 0 where
  pub gap : d.gap ≡ c.pli_gap_ms
  pub request_ms : d.request_ms ≡ c.request_ms
  pub base : d.base ≡ empty_base
  pub history : d.history ≡ []
  pub legal : HoldsLegalDesk d

-- no job waits, and nothing was sent on its legs
pub record IsNewWorker (c : Configuration) (k : ℕ) (s : WorkerState) : Type 0 where
  pub jobs : s.jobs ≡ []
  pub hand : s.hand ≡ free
  pub legs : s.legs ≡ new_legs (table_of c) c.ring k

-- so many workers, each of which is new
pub record AreNewWorkers (c : Configuration) (count : ℕ) (workers : List WorkerState) : Type 0 where
  pub size : length workers ≡ count
  pub each : (k : ℕ) (s : WorkerState) → slice_get workers k ≡ Some s → IsNewWorker c k s

-- the world that settings open: nobody is present, nothing waits, and nothing was done yet
pub record IsNewWorld (c : Configuration) (w : WorldState) : Type 0 where
  pub setup : w.setup ≡ setup_by c
  pub room : w.room ≡ new_room c
  pub tasks : w.tasks ≡ []
  pub pending : w.pending ≡ None
  pub desk_count : length w.desks ≡ length c.endpoints
  pub desks : All (IsNewDesk c) w.desks
  pub rows : w.rows ≡ opening_rows (length c.legs)
  pub worker_count : length w.workers ≡ c.workers
  pub workers : (k : ℕ) (s : WorkerState) → slice_get w.workers k ≡ Some s → IsNewWorker c k s
  pub round : w.round ≡ first_round
  pub lost : w.lost ≡ 0
  pub tmmbns : w.tmmbns ≡ 0
