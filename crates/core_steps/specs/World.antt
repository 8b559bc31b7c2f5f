-- What the machine holds, as plain values.
use Rattle.std.specs.Prelude.{ℕ, List, Option}
use Rattle.members.specs.declared.order.Order.{Order}
use Rattle.members.specs.declared.order.Row.{Row}
use Rattle.members.specs.Room.{RoomState}
use Rattle.desk.specs.State.{DeskState}
use Rattle.events.specs.declared.job.Job.{Job}
use Rattle.desk_calls.specs.Head.{Identity}
use Rattle.settings.specs.Links.{LinkTable}
use Rattle.settings.specs.declared.rules.LegRules.{LegRules}
use Rattle.legs.specs.declared.leg.LegState.{LegState}
use Rattle.desk_calls.specs.Notification.{Pending}
use Rattle.core_steps.specs.declared.rounds.Round.{Round}

-- what the settings say once and for all: the legs, the unit's own source and name, the times in milliseconds, the slots of a round
-- of reports, and what is done of its own accord as legs begin and end
pub record Setup : Type 0 where
  pub table : LinkTable
  pub unit : Identity
  pub request_ms : ℕ
  pub report_ms : ℕ
  pub report_slots : ℕ
  pub rules : LegRules

-- what waits for the ingress: an order of the room; a job for a worker; a moment to be told to a publisher's desk, for its PLIs
-- or for requests that are too old; a report to a publisher
pub data Task : Type 0 where
  order : Order → Task
  push : ℕ → Job → Task
  pulse : ℕ → Task
  expire : ℕ → Task
  report : ℕ → Task

-- what a worker has in hand
pub data Hand : Type 0 where
  free : Hand
  doing : Job → Hand
  telling : Pending → Hand

-- the jobs in its ring, oldest first; its hand; the legs that it owns
pub record WorkerState : Type 0 where
  pub jobs : List Job
  pub hand : Hand
  pub legs : List LegState

-- the room; what waits for the ingress, oldest first, after the notification of its last desk call; the desk of each endpoint;
-- the published row of each leg; the workers; the round of reports; how many jobs were given up, and how many TMMBNs were heard
pub record WorldState : Type 0 where
  pub setup : Setup
  pub room : RoomState
  pub tasks : List Task
  pub pending : Option Pending
  pub desks : List DeskState
  pub rows : List Row
  pub workers : List WorkerState
  pub round : Round
  pub lost : ℕ
  pub tmmbns : ℕ
