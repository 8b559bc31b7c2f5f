-- The comment lines of a record that are shown among events.
use Rattle.std.specs.Prelude.{◌&&◌, ℕ, nat_le, Bool, List, length, take, codes}
use Rattle.std.specs.Str.{bytes_eq}

-- a line begins with this
abbrev pub begins_with : List ℕ → List ℕ → Bool
begins_with head line =
    nat_le (length head) (length line) && bytes_eq (take (length head) line) head

-- it says that the unit made the event that comes next, in its endpoint's name
unfoldable pub is_made_mark : List ℕ → Bool
is_made_mark line = begins_with (codes "# made in its name") line

-- it says that an unknown sender came
unfoldable pub is_stranger_line : List ℕ → Bool
is_stranger_line line = begins_with (codes "# stranger ") line
