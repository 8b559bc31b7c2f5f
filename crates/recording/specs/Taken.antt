-- The lines of what a unit took in.
use Rattle.std.specs.Prelude.{◌++◌, ℕ, List, []}
use Rattle.events.specs.declared.event.Event.TheVariants.{Hear, Select}
use Rattle.recording.specs.declared.taken.Origin.{Origin}
use Rattle.recording.specs.declared.taken.Origin.TheVariants.{Came, Made, Changed}
use Rattle.recording.specs.declared.taken.Taken.{Taken}
use Rattle.recording.specs.declared.taken.Taken.TheVariants as taken
use Rattle.recording.specs.Lines.{after_came, event_lines, made_mark}

-- the lines of a datagram, after a comment if the unit made it, or a policy made it of what came
abbrev pub with_origin : Origin → List ℕ → List ℕ
with_origin Came lines = lines
with_origin (Made heard) lines = made_mark heard ++ lines
with_origin (Changed came) lines = after_came came.now lines

-- the lines of what a unit took in at this moment
abbrev pub taken_lines : ℕ → Taken → List ℕ
taken_lines moment taken.Nothing = []
taken_lines moment (taken.Select leg on) = event_lines (Select moment leg on)
taken_lines moment (taken.Datagram endpoint bytes origin) =
    with_origin origin (event_lines (Hear moment endpoint bytes.now))
