-- Answers, as the one who asks takes them apart: lines and `ok`, or `refused` and why.
use Rattle.std.specs.Prelude.{ℕ, ◌-◌, ◌&&◌, ◌||◌, ◌==◌, nat_le, nat_lt, Bool, List, length, take, drop, Option, None, Some, codes, if◌then◌else◌}
use Rattle.std.specs.Str.{bytes_eq}
use Rattle.control_protocol.specs.declared.ask.Answered.{Answered}
use Rattle.control_protocol.specs.declared.ask.Answered.TheVariants.{Done, Refused}

-- a text ends so
abbrev pub ends_in : List ℕ → List ℕ → Bool
ends_in text end = nat_le (length end) (length text)
    && bytes_eq (drop (length text - length end) text) end

-- a text begins so
abbrev pub begins_in : List ℕ → List ℕ → Bool
begins_in text start = nat_le (length start) (length text)
    && bytes_eq (take (length start) text) start

-- lines, each of which has ended
abbrev pub are_lines : List ℕ → Bool
are_lines text = (length text == 0) || ends_in text (codes "\n")

-- an answer: the request was done, and these are its lines; or it was refused for this
pub data Verdict : Type 0 where
  done : (lines : List ℕ) → Verdict
  refused : (why : List ℕ) → Verdict

abbrev pub verdict_of : Answered → Verdict
verdict_of (Done lines) = done lines.now
verdict_of (Refused why) = refused why.now

-- `refused`, a space, why, and the end of the line
abbrev pub refused_by : List ℕ → Option Verdict
refused_by text = if nat_lt (length text) 9 then None
    else if begins_in text (codes "refused ") && ends_in text (codes "\n")
    then Some (refused (take (length (drop 8 text) - 1) (drop 8 text))) else None

-- the answer that a text is, once its last line is there
abbrev pub answered_by : List ℕ → Option Verdict
answered_by text =
    if ends_in text (codes "ok\n") && are_lines (take (length text - 3) text)
    then Some (done (take (length text - 3) text)) else refused_by text
