-- The words of the unit's lines, by their places.
use Rattle.std.specs.Prelude.{ℕ, ◌==◌, ◌-◌, ◌&&◌, ◌||◌, nat_le, not, Bool, List, [], get_or, codes, drop, length, take, Option, None, Some, if◌then◌else◌}
use Rattle.std.specs.Char.{is_ascii_graphic}
use Rattle.std.specs.List.{list_all}
use Rattle.std.specs.Str.{bytes_eq}

-- none is there: no byte
abbrev pub word_at : List (List ℕ) → ℕ → List ℕ
word_at words place = get_or words place []

-- how often something was refused of an endpoint, in its line, which says `never heard` or `heard M ms ago` before that
abbrev pub refused_word : List (List ℕ) → List ℕ
refused_word words =
    if bytes_eq (word_at words 6) (codes "never") then word_at words 9 else word_at words 11

-- what an endpoint is called, at the end of its line: `name NAME`
abbrev pub name_word : List (List ℕ) → List ℕ
name_word words = if bytes_eq (word_at words (length words - 2)) (codes "name")
    then word_at words (length words - 1) else []

-- a word is shown as it is, as JSON quotes it, if it has only characters of ASCII that are printed
abbrev pub is_printed : List ℕ → Bool
is_printed word = not (length word == 0) && list_all is_ascii_graphic word

abbrev pub printed_word : List ℕ → Option (List ℕ)
printed_word word = if is_printed word then Some word else None

-- a small letter, a digit, a dot, a slash, a colon or a bracket: nothing that HTML or JSON reads as more than itself
abbrev pub is_plain_byte : ℕ → Bool
is_plain_byte b =
    nat_le b 122 && (nat_le 97 b || ((nat_le 46 b && nat_le b 58) || ((b == 91) || (b == 93))))

abbrev pub is_plain : List ℕ → Bool
is_plain word = list_all is_plain_byte word

-- a word is shown as it is if it is plain
abbrev pub plain_word : List ℕ → List ℕ
plain_word word = if is_plain word then word else codes "?"

-- what stands after a start, and before an end
abbrev pub without_start : List ℕ → List ℕ → Option (List ℕ)
without_start start path =
    if bytes_eq (take (length start) path) start then Some (drop (length start) path) else None

abbrev pub without_end : List ℕ → List ℕ → Option (List ℕ)
without_end end path = if bytes_eq (drop (length path - length end) path) end
    then Some (take (length path - length end) path) else None
