-- What `sfu serve` says, and what it leaves if it isn't done.
use Rattle.std.specs.Prelude.{◌≡◌, ◌≢◌, ◌⊎◌, ◌++◌, ◌*◌, ◌-◌, ◌^◌, ℕ, Bool, true, false, List, [], Option, Some, None, codes}
use Rattle.std.specs.Io.KnownBytes.{Keeps, append_known}
use Rattle.std.specs.Net.Text.{socket_text}
use Rattle.std.specs.declared.net.socket_addr.SocketAddr.{SocketAddr}
use Rattle.settings.specs.Settings.{Configuration}
use Rattle.cli.specs.Statuses.{SaysWhy}
use Rattle.serving.specs.ReportText.{PrintsReport}
use Rattle.serving.specs.declared.serve_fault.ServeFault.{ServeFault}
use Rattle.serving.specs.declared.serve_fault.ServeFault.TheVariants.{NoMemory, Socket}
use Rattle.one_thread.specs.declared.driver.DriveFault.{DriveFault}
use Rattle.one_thread.specs.declared.driver.DriveFault.TheVariants as drive_fault
use Rattle.recording.specs.declared.faults.WriterFault.{WriterFault}
use Rattle.recording.specs.declared.faults.WriterFault.TheVariants as writer_fault
use Rattle.worker_threads.specs.declared.fault.UnitFault.{UnitFault}
use Rattle.worker_threads.specs.declared.fault.UnitFault.TheVariants as unit_fault
use Rattle.cli.specs.declared.status.Status.{Status}
use Rattle.cli.specs.declared.status.Status.TheVariants as status

-- a fault of the run as one of serving: want of memory, or else its socket or its threads
abbrev pub serve_fault_of : UnitFault → ServeFault
serve_fault_of unit_fault.NoMemory = NoMemory
serve_fault_of fault = Socket

-- the same of a run in one thread
abbrev pub drive_fault_of : DriveFault → ServeFault
drive_fault_of drive_fault.NoMemory = NoMemory
drive_fault_of drive_fault.Receive = Socket

-- the same of a thread that was to write its lines of counts
abbrev pub writer_fault_of : WriterFault → ServeFault
writer_fault_of writer_fault.NoMemory = NoMemory
writer_fault_of writer_fault.System = Socket

-- if the unit isn't served to its end for its socket and its threads, nothing was printed
abbrev pub FailsServe : Option (List ℕ) → Option (List ℕ) → ServeFault → Type 0
FailsServe old new fault = fault ≡ Socket → Keeps old new

-- the turns of `--ticks N`; without it, more than come to an end
abbrev pub turns_by : Option ℕ → ℕ
turns_by None = 2 ^ 64 - 1
turns_by (Some count) = count

-- How far apart lines of counts are, in milliseconds, if anything is written while a unit runs: as good as none are where it may have other lines
-- and none of counts is wanted. Else nothing is.
abbrev pub said_each : Option ℕ → Bool → Option ℕ
said_each (Some seconds) has_lines = Some (seconds * 1000)
said_each None true = Some (2 ^ 64 - 1)
said_each None false = None

-- How a unit that was to be served ends: the report of so many turns at this pace is printed; or its socket or its threads failed, and nothing
-- is; or memory is wanting, or a write failed.
pub record EndsServe (settings : Configuration) (tick_ms turns : ℕ) (old new : Option (List ℕ))
    (s : Status) : Type 0 where
  pub done : s ≡ status.Done → PrintsReport settings tick_ms turns old new
  pub socket : s ≡ status.Socket → Keeps old new
  pub understood : s ≢ status.CommandLine
  pub read : (s ≢ status.Settings) × (s ≢ status.Refused)

-- The unit isn't served, and the error output says why.
pub record FailsToStart (old new : Option (List ℕ)) (s : Status) : Type 0 where
  pub failed : s ≢ status.Done
  pub understood : s ≢ status.CommandLine
  pub read : (s ≢ status.Settings) × (s ≢ status.Refused)
  pub said : SaysWhy old new s

-- The same, for this fault: `socket` is said of the socket alone.
pub record SaysFault (old new : Option (List ℕ)) (s : Status) (fault : ServeFault) : Type 0 where
  pub fails : FailsToStart old new s
  pub socket : s ≡ status.Socket → fault ≡ Socket

-- the line that says where the unit listens, and where for RTCP if that is apart
abbrev pub serving_line : SocketAddr → Option SocketAddr → List ℕ
serving_line address None = codes "serving " ++ (socket_text address ++ codes "\n")
serving_line address (Some rtcp) =
    codes "serving "
    ++ (socket_text address ++ (codes " rtcp " ++ (socket_text rtcp ++ codes "\n")))

-- What the error output says of a unit that was to be served without lines of counts: where it listens, if it came so far,
-- and after that what other commands say.
pub record SaysWhyServing (old new : Option (List ℕ)) (s : Status) : Type 0 where
  pub notice : List ℕ
  pub listened : (notice ≡ [])
      ⊎ ((address : SocketAddr) × (rtcp : Option SocketAddr) × (notice ≡ serving_line address rtcp))
  pub done : s ≡ status.Done → notice ≢ []
  pub said : SaysWhy (append_known old notice) new s
