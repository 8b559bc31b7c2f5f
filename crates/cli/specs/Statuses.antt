-- How a command ends, and what it then says on the error output.
use Rattle.std.specs.Prelude.{◌≡◌, ◌≢◌, ◌⊎◌, ℕ, codes, List, Option}
use Rattle.std.specs.Io.KnownBytes.{Appends, Keeps}
use Rattle.std.specs.IoError.{error_kind}
use Rattle.std.specs.declared.io.Error.{Error}
use Rattle.std.specs.declared.io.ErrorKind.{ErrorKind}
use Rattle.std.specs.declared.io.ErrorKind.TheVariants.{OutOfMemory}
use Rattle.request_text.specs.declared.fault.LineFault.TheVariants.{Text}
use Rattle.request_text.specs.BoundText.{refused_text}
use Rattle.request_text.specs.declared.bound.Refusal.{Refusal}
use Rattle.request_text.specs.declared.bound.Refusal.TheVariants.{NoMemory as NoMemoryAtAll, Line}
use Rattle.cli.specs.declared.status.Status.{Status}
use Rattle.cli.specs.declared.status.Status.TheVariants as status
use Rattle.cli.specs.declared.status.Failure.{Failure}
use Rattle.cli.specs.declared.status.Failure.TheVariants.{NoMemory, Refused as RefusedLine, Io}

-- a text's refusal as a command's failure
abbrev pub failure_of : Refusal → Failure
failure_of NoMemoryAtAll = NoMemory
failure_of (Line line fault) = RefusedLine line fault

-- a failed read or write as a command's failure: want of memory by its kind, else io
abbrev pub failure_at : ErrorKind → Failure
failure_at OutOfMemory = NoMemory
failure_at kind = Io

-- a file that can't be opened or read: want of memory by its kind, else its line 0 is refused
abbrev pub unreadable_at : ErrorKind → Failure
unreadable_at OutOfMemory = NoMemory
unreadable_at kind = RefusedLine 0 Text

abbrev pub IsOutOfMemory : Error → Type 0
IsOutOfMemory e = error_kind e ≡ OutOfMemory

-- the numbers that the process exits with
abbrev pub code_of : Status → ℕ
code_of status.Done = 0
code_of status.NoMemory = 1
code_of status.CommandLine = 2
code_of status.Settings = 3
code_of status.Refused = 4
code_of status.Io = 5
code_of status.Socket = 5
code_of status.Control = 5
code_of status.Record = 5
code_of status.UnsaidNoMemory = 1
code_of status.UnsaidIo = 5

abbrev pub status_of : Failure → Status
status_of NoMemory = status.NoMemory
status_of (RefusedLine line fault) = status.Refused
status_of Io = status.Io

-- the line for a failure is on the error output
abbrev pub ShowsLine : Failure → Option (List ℕ) → Option (List ℕ) → Type 0
ShowsLine NoMemory old new = Appends old new (codes "no memory\n")
ShowsLine Io old new = Appends old new (codes "io\n")
ShowsLine (RefusedLine line fault) old new =
    Appends old new (refused_text (record { line = line; fault = fault }))

-- a write to the error output failed, of what there was to say
abbrev pub IsUnsaid : Status → Type 0
IsUnsaid status.UnsaidNoMemory = Unit {0}
IsUnsaid status.UnsaidIo = Unit {0}
IsUnsaid s = ⊥

-- how a command ends whose error output failed so
abbrev pub unsaid_at : ErrorKind → Status
unsaid_at OutOfMemory = status.UnsaidNoMemory
unsaid_at kind = status.UnsaidIo

-- the text is on the error output and the command ends so, or it couldn't be written
abbrev pub EndsSaying : Status → List ℕ → Option (List ℕ) → Option (List ℕ) → Status → Type 0
EndsSaying wanted text old new s = ((s ≡ wanted) × Appends old new text) ⊎ IsUnsaid s

-- it says that memory is wanting, and ends so
abbrev pub EndsWanting : Option (List ℕ) → Option (List ℕ) → Status → Type 0
EndsWanting old new s = EndsSaying status.NoMemory (codes "no memory\n") old new s

-- it says of this failure what there is to say, and ends so; or there is no memory for the line
abbrev pub EndsAsFailed : Failure → Option (List ℕ) → Option (List ℕ) → Status → Type 0
EndsAsFailed NoMemory old new s = EndsWanting old new s
EndsAsFailed Io old new s = EndsSaying status.Io (codes "io\n") old new s
EndsAsFailed (RefusedLine line fault) old new s =
    EndsSaying status.Refused (refused_text (record { line = line; fault = fault })) old new s
    ⊎ EndsWanting old new s

-- What the error output says of a status: nothing if the command is done, else why it isn't. What refuses a line or
-- words is said elsewhere; and if the error output fails, nothing is.
pub record SaysWhy (old new : Option (List ℕ)) (s : Status) : Type 0 where
  pub done : s ≡ status.Done → Keeps old new
  pub no_memory : s ≡ status.NoMemory → Appends old new (codes "no memory\n")
  pub io : s ≡ status.Io → Appends old new (codes "io\n")
  pub socket : s ≡ status.Socket → Appends old new (codes "socket\n")

-- A command that failed so ends so, and what is to be said of that is on the error output: the line for the fault, or why
-- there is none.
pub record ShowsFailure (failure : Failure) (old new : Option (List ℕ)) (s : Status) : Type 0 where
  pub failed : s ≢ status.Done
  pub understood : s ≢ status.CommandLine
  pub settings : s ≢ status.Settings
  pub refused : s ≡ status.Refused
      → (status_of failure ≡ status.Refused) × ShowsLine failure old new
  pub said : SaysWhy old new s
  pub ends : EndsAsFailed failure old new s
