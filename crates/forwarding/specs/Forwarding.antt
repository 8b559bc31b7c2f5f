-- What a worker is, and what it does with a job on its legs.
use Rattle.std.specs.Prelude.{◌≡◌, ℕ, List}
use Rattle.settings.specs.Settings.{Configuration}
use Rattle.members.specs.declared.order.Row.{Row}
use Rattle.members.specs.Rows.{rows_after}
use Rattle.routes.specs.Views.{ReaderView}
use Rattle.events.specs.declared.job.Job.{Job}
use Rattle.legs.specs.declared.leg.LegState.{LegState}
use Rattle.events.specs.declared.output.Out.{Out}
use Rattle.desk_calls.specs.Head.{Identity}
use Rattle.legs.specs.Legs.{new_legs, job_datagrams, legs_after}
use Rattle.settings.specs.Links.{LinkTable, table_of}
use Rattle.forwarding.specs.declared.done.ForwardFault.{ForwardFault}
use Rattle.forwarding.specs.declared.done.ForwardFault.TheVariants.{NoView, NoMemory}

-- ---- a worker

-- how the unit is set up: its legs, and who it is
pub record NotifierState : Type 0 where
  pub table : LinkTable
  pub unit : Identity

-- how the unit is set up, the worker's number, and the legs that it owns
pub record ForwarderState : Type 0 where
  pub notifier : NotifierState
  pub worker : ℕ
  pub legs : List LegState

abbrev pub new_notifier : Configuration → NotifierState
new_notifier c =
    record { table = table_of c; unit = record { ssrc = c.unit_ssrc.0; cname = c.cname } }

-- a worker of these settings that has sent nothing yet
abbrev pub new_forwarder : Configuration → ℕ → ForwarderState
new_forwarder c worker = record {
  notifier = new_notifier c;
  worker = worker;
  legs = new_legs (table_of c) c.ring worker;
}

-- ---- a job

-- what the job gives out by these rows (RFC 7667, section 3.7)
abbrev pub given_by : ForwarderState → List Row → Job → List Out
given_by f rows job = job_datagrams rows f.legs job

-- the worker once the job is done by these rows (RFC 7667, section 3.7)
abbrev pub after_job : ForwarderState → List Row → Job → ForwarderState
after_job f rows job = record f { legs = legs_after rows f.legs job }

-- ---- a view

-- the rows are those of a table of so many legs after what is known
abbrev pub IsView : ℕ → ReaderView → Type 0
IsView legs reader = reader.rows ≡ rows_after legs reader.known

-- how a fault leaves the reader's rows: without a view as they were, and without memory as entered
abbrev pub LeavesRows : ℕ → List Row → ReaderView → ForwardFault → Type 0
LeavesRows legs former next NoView = next.rows ≡ former
LeavesRows legs former next NoMemory = IsView legs next
