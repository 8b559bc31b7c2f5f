-- What a script of `sfu replay` prints: its lines are played from a new world, one after the other.
use Rattle.std.specs.Prelude.{◌≡◌, ◌≢◌, ◌⊎◌, ℕ, ◌+◌, zero, suc, Bool, true, false, List, [], ◌∷◌, ◌++◌, length, map, slice_get, Option, None, Some, IfSome, string_bytes}
use Rattle.std.specs.Io.KnownBytes.{Appends, Keeps}
use Rattle.tmmbr_tuple.specs.declared.ssrc.Ssrc.{Ssrc}
use Rattle.settings.specs.Links.{table_of}
use Rattle.settings.specs.Settings.{Configuration}
use Rattle.bounding_set.specs.State.{announced_of}
use Rattle.desk.specs.State.{DeskState}
use Rattle.events.specs.declared.event.Event.{Event}
use Rattle.events.specs.declared.event.Event.TheVariants.{Ingress, Work}
use Rattle.events.specs.declared.output.Out.{Out}
use Rattle.core_steps.specs.World.{WorldState}
use Rattle.core_steps.specs.Opening.{IsNewWorld}
use Rattle.core_steps.specs.Rule.{is_busy}
use Rattle.core_steps.specs.Run.{HasRun}
use Rattle.core_steps.specs.Waits.{has_work}
use Rattle.cli.specs.Statuses.{SaysWhy}
use Rattle.cli.specs.declared.status.Status.{Status}
use Rattle.cli.specs.declared.status.Status.TheVariants as status
use Rattle.cli.specs.declared.status.Failure.{Failure}
use Rattle.cli.specs.declared.status.Failure.TheVariants.{NoMemory, Refused as RefusedLine, Io}
use Rattle.request_text.specs.declared.fault.LineFault.TheVariants.{Text}
use Rattle.replay.specs.declared.giving.Gives.{Gives}
use Rattle.replay.specs.declared.giving.Gives.TheVariants.{Outs, Set}
use Rattle.replay.specs.declared.replay.Progress.{Progress}
use Rattle.replay.specs.declared.script.Command.{Command}
use Rattle.replay.specs.declared.script.Command.TheVariants.{Do, Settle, Follow, Show}
use Rattle.replay.specs.declared.script.Numbers.{Numbers}
use Rattle.replay.specs.declared.script.ScriptLine.{ScriptLine}
use Rattle.replay.specs.declared.script.ScriptLine.TheVariants.{Skipped, Command as ACommand, Unreadable}
use Rattle.request_text.specs.BoundText.{refused_text, announced_line}
use Rattle.request_text.specs.Lines.{lines_of}
use Rattle.replay.specs.Script.{script_line_of}
use Rattle.replay.specs.Head.{clock_in}
use Rattle.replay.specs.Printing.{PrintsGiven}
use Rattle.replay.specs.Shown.{Cause, Given, Scene, Told, a_set, all_told, an_out, cause_after, cause_of, comment_told, event_told, given_at, no_cause, shown_text, the_end, trail}
use Rattle.replay.specs.declared.last_packets.LastPacket.{LastPacket}
use Rattle.replay.specs.declared.shown.Shown.{Shown}

-- ---- what is given out

-- these were given out, after those that were given out before
abbrev pub GivesOut : (List Out → Type 0) → List Out → List Out → Type 0
GivesOut P old new = (outs : List Out) × P outs × (new ≡ old ++ outs)

-- ---- what a command does

-- The event is done as long as there is something to do for it, and this is given out until then.
pub data Drains : (WorldState → Bool) → Event → WorldState → List Out → WorldState → Type 0 where
  over : {waits : WorldState → Bool} {event : Event} {w : WorldState} → waits w ≡ false
      → Drains waits event w [] w
  again : {waits : WorldState
      → Bool} {event : Event} {w next final : WorldState} {first others : List Out}
      → waits w ≡ true → HasRun (event ∷ []) w [] next first → Drains waits event next others final
      → Drains waits event w (first ++ others) final

-- the ingress, until neither a task nor a notification waits for it
abbrev pub IngressDrains : WorldState → List Out → WorldState → Type 0
IngressDrains w outs final = Drains is_busy Ingress w outs final

-- a worker, until it has neither a job nor anything in its hand
abbrev pub WorkerDrains : ℕ → WorldState → List Out → WorldState → Type 0
WorkerDrains k w outs final = Drains (λ x. has_work x k) (Work k) w outs final

-- so many workers from this one on, one after the other
abbrev pub WorkersDrain : ℕ → ℕ → WorldState → List Out → WorldState → Type 0
WorkersDrain zero k w outs final = (outs ≡ []) × (final ≡ w)
WorkersDrain (suc count) k w outs final =
    (next : WorldState) × (first others : List Out) × WorkerDrains k w first next
    × WorkersDrain count (k + 1) next others final
    × (outs ≡ first ++ others)

-- The ingress, and then each of so many workers.
pub record Settles (workers : ℕ) (w : WorldState) (outs : List Out)
    (final : WorldState) : Type 0 where
  pub next : WorldState
  pub first : List Out
  pub others : List Out
  pub ingress : IngressDrains w first next
  pub each : WorkersDrain workers 0 next others final
  pub given : outs ≡ first ++ others

-- As long as anything waits for the ingress it does one step, and after it each of so many workers until it has nothing to do.
pub data Rounds : ℕ → WorldState → List Out → WorldState → Type 0 where
  quiet : {workers : ℕ} {w : WorldState} → is_busy w ≡ false → Rounds workers w [] w
  round : {workers : ℕ} {w next final : WorldState} {first last : List Out} (others : List Out)
      (then_on : WorldState) → is_busy w ≡ true → HasRun (Ingress ∷ []) w [] next first
      → WorkersDrain workers 0 next others then_on → Rounds workers then_on last final
      → Rounds workers w (first ++ (others ++ last)) final

-- Each of so many workers, and then the rounds.
pub record Follows (workers : ℕ) (w : WorldState) (outs : List Out)
    (final : WorldState) : Type 0 where
  pub next : WorldState
  pub first : List Out
  pub others : List Out
  pub each : WorkersDrain workers 0 w first next
  pub rounds : Rounds workers next others final
  pub given : outs ≡ first ++ others

-- the TMMBN of what a publisher's desk announces, with the publisher's source as sender
pub record IsShown (c : Configuration) (w : WorldState) (p : ℕ) (text : List ℕ) : Type 0 where
  pub desk : DeskState
  pub there : slice_get w.desks p ≡ Some desk
  pub source : Ssrc
  pub has : slice_get c.endpoints p ≡ Some source
  pub is : text ≡ announced_line source.0 (announced_of desk.bounds)

-- a command leads to this world, and this is told
abbrev pub CommandPlays : Configuration → WorldState → Command → WorldState → List Told → Type 0
CommandPlays c w (Do event) next told =
    (outs : List Out) × HasRun (event ∷ []) w [] next outs × (told ≡ all_told (Do event) outs)
CommandPlays c w Settle next told =
    (outs : List Out) × Settles c.workers w outs next × (told ≡ all_told Settle outs)
CommandPlays c w Follow next told =
    (outs : List Out) × Follows c.workers w outs next × (told ≡ all_told Follow outs)
CommandPlays c w (Show p) next told =
    (text : List ℕ) × IsShown c w p text × (next ≡ w) × (told ≡ a_set text ∷ [])

-- what a command gives, as it is told
abbrev pub told_in : Gives → List Told
told_in (Outs is_event outs) = event_told is_event ++ map an_out outs.items
told_in (Set text) = a_set (string_bytes text) ∷ []

-- ---- a script

abbrev pub numbers_of : Configuration → Numbers
numbers_of c = record { endpoints = length c.endpoints; workers = c.workers }

-- a line that can be read leads to this world, and this is told
abbrev pub ScriptLinePlays : Configuration → List ℕ → WorldState → ScriptLine → WorldState → List Told → Type 0
ScriptLinePlays c line w Skipped next told = (next ≡ w) × (told ≡ comment_told line)
ScriptLinePlays c line w (ACommand command) next told = CommandPlays c w command next told
ScriptLinePlays c line w Unreadable next told = ⊥

abbrev pub LinePlays : Configuration → List ℕ → WorldState → WorldState → List Told → Type 0
LinePlays c line w next told = ScriptLinePlays c line w (script_line_of (numbers_of c) line) next told

-- the latest event once the line of this number is read
abbrev pub cause_behind : Configuration → ℕ → List ℕ → Cause → Cause
cause_behind c n line before = cause_after n line (script_line_of (numbers_of c) line) before

-- A line leads to this world, and what is shown of what it gives is printed: from here to there. The last packets of the legs were
-- these, and then those.
pub record PrintsLine (c : Configuration) (v : Scene) (n : ℕ) (line : List ℕ) (w next : WorldState)
    (here there : Progress) (last then_last : List LastPacket) (old new : Option (List ℕ))
    : Type 0 where
  pub told : List Told
  pub plays : LinePlays c line w next told
  pub latest : cause_of there.latest ≡ cause_behind c n line (cause_of here.latest)
  pub printed : PrintsGiven v (trail here.said last) (given_at (cause_of there.latest) told)
      (trail there.said then_last) old new

-- Lines, of which the first has this number, give this, after the latest event before them; they are played to their end, or up to
-- the line of the number that can't be read. That they are over is told last.
abbrev pub LinesPlay : Configuration → ℕ → Cause → List (List ℕ) → WorldState → List Given
    → Option ℕ → Type 0
LinesPlay c n cause [] w given stopped = (given ≡ given_at cause (the_end ∷ [])) × (stopped ≡ None)
LinesPlay c n cause (line ∷ lines) w given stopped =
    ((next : WorldState) × (told : List Told) × (others : List Given) × LinePlays c line w next told
    × LinesPlay c (n + 1) (cause_behind c n line cause) lines next others stopped
    × (given ≡ given_at (cause_behind c n line cause) told ++ others))
    ⊎ ((script_line_of (numbers_of c) line ≡ Unreadable) × (given ≡ []) × (stopped ≡ Some n))

-- A script is played from a new world of the settings, to its end or to the first line that can't be read, and gives this.
pub record Plays (c : Configuration) (script : List ℕ) (given : List Given)
    (stopped : Option ℕ) : Type 0 where
  pub world : WorldState
  pub opened : IsNewWorld c world
  pub lines : LinesPlay c 1 no_cause (lines_of script) world given stopped

-- ---- what the program prints

-- By which legs what a script gives is shown, what is asked for, and what the script says of the wall clock.
abbrev pub scene : Configuration → Shown → List ℕ → Scene
scene c s script = record { table = table_of c; shown = s; clock = clock_in s.utc script }

-- The whole script was played, and the text of what is shown of that is printed.
pub record PrintsLines (c : Configuration) (v : Scene) (script : List ℕ)
    (old new : Option (List ℕ)) : Type 0 where
  pub given : List Given
  pub plays : Plays c script given None
  pub printed : Appends old new (shown_text v given)

-- The script was played up to its first line that can't be read: the text of what is shown of that is printed.
pub record StopsLines (c : Configuration) (v : Scene) (script : List ℕ) (line : ℕ)
    (old new : Option (List ℕ)) : Type 0 where
  pub given : List Given
  pub plays : Plays c script given (Some line)
  pub printed : Appends old new (shown_text v given)

-- if a script isn't played to its end, one of its lines can't be read, or memory is wanting, or a read or a write failed
abbrev pub FailsLines : Configuration → Scene → List ℕ → Option (List ℕ) → Option (List ℕ) → Failure
    → Type 0
FailsLines c v script old new NoMemory = Unit {0}
FailsLines c v script old new Io = Unit {0}
FailsLines c v script old new (RefusedLine line fault) =
    (fault ≡ Text) × StopsLines c v script line old new

abbrev pub PrintsReplay : Configuration → Shown → List ℕ → Option (List ℕ) → Option (List ℕ) → Type 0
PrintsReplay c s script old new = PrintsLines c (scene c s script) script old new

abbrev pub StopsReplay : Configuration → Shown → List ℕ → ℕ → Option (List ℕ) → Option (List ℕ)
    → Type 0
StopsReplay c s script line old new = StopsLines c (scene c s script) script line old new

-- the same of a script, if it could be read
abbrev pub FailsReplay : Configuration → Shown → Option (List ℕ) → Option (List ℕ)
    → Option (List ℕ) → Failure → Type 0
FailsReplay c s script old new NoMemory = Unit {0}
FailsReplay c s script old new Io = Unit {0}
FailsReplay c s script old new (RefusedLine line fault) =
    (fault ≡ Text) × IfSome script (λ text. StopsReplay c s text line old new)

-- if a line isn't played, it can't be read and prints nothing, or memory is wanting, or a write failed
abbrev pub FailsLine : Configuration → ℕ → List ℕ → Option (List ℕ) → Option (List ℕ) → Failure
    → Type 0
FailsLine c number line old new NoMemory = Unit {0}
FailsLine c number line old new Io = Unit {0}
FailsLine c number line old new (RefusedLine n fault) =
    (n ≡ number) × (fault ≡ Text) × (script_line_of (numbers_of c) line ≡ Unreadable) × Keeps old new

-- no line is refused
abbrev pub IsOutside : Failure → Type 0
IsOutside NoMemory = Unit {0}
IsOutside Io = Unit {0}
IsOutside (RefusedLine line fault) = ⊥

-- The error output has the number of the line that can't be read.
pub record RefusesReplay (c : Configuration) (s : Shown) (script : List ℕ)
    (old new errors_old errors_new : Option (List ℕ)) : Type 0 where
  pub line : ℕ
  pub stops : StopsReplay c s script line old new
  pub shown : Appends errors_old errors_new (refused_text (record { line = line; fault = Text }))

-- How a script is replayed by settings: `input` is what there was to read of it, `old` and `new` what was printed before and is after it,
-- `errors_old` and `errors_new` what was said on the error output.
pub record EndsScript (c : Configuration) (shown : Shown)
    (input old new errors_old errors_new : Option (List ℕ)) (s : Status) : Type 0 where
  -- if it is done, what is to be shown of what the script gives is printed
  pub done : s ≡ status.Done → IfSome input (λ script. PrintsReplay c shown script old new)
  -- if it is refused, so is what comes before the first line that can't be read, and that line's number is said
  pub refused : s ≡ status.Refused
      → IfSome input (λ script. RefusesReplay c shown script old new errors_old errors_new)
  -- neither words nor settings are at fault
  pub understood : (s ≢ status.CommandLine) × (s ≢ status.Settings)
  -- what any command says of how it ends is said
  pub said : SaysWhy errors_old errors_new s
