-- When it is said that numbers couldn't be written.
use Rattle.std.specs.Prelude.{ℕ, List, Bool, ◌&&◌, not, codes}

-- the line that says it
abbrev pub unwritten_line : List ℕ
unwritten_line = codes "numbers: unwritten\n"

-- it is said if the last note couldn't be written, unless that was said already since the last one that could
abbrev pub is_notice_due : Bool → Bool → Bool
is_notice_due is_said has_failed = has_failed && not is_said
