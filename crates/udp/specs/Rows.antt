-- The rows of the system's table of UDP sockets, and what they say that was dropped.
use Rattle.std.specs.Prelude.{ℕ, ◌-◌, ◌^◌, ◌==◌, length, List, [], ◌∷◌, Option, None, Some, get_or, flat_map, sum_by, min, if◌then◌else◌}
use Rattle.std.specs.Str.{bytes_eq}
use Rattle.request_text.specs.Lines.{lines_of}
use Rattle.request_text.specs.Words.{number_under, words_in}

-- words may be parted by several spaces
abbrev pub full_word : List ℕ → List (List ℕ)
full_word word = if length word == 0 then [] else word ∷ []

abbrev pub row_words : List ℕ → List (List ℕ)
row_words line = flat_map full_word (words_in line)

abbrev pub number_or_none : Option ℕ → ℕ
number_or_none None = 0
number_or_none (Some n) = n

-- the second word of a row names the socket's own address, the thirteenth says how many datagrams it dropped
abbrev pub drops_of_words : List ℕ → List (List ℕ) → ℕ
drops_of_words address words =
    if bytes_eq (get_or words 1 []) address
    then number_or_none (number_under (2 ^ 64) (get_or words 12 [])) else 0

unfoldable pub drops_of_row : List ℕ → List ℕ → ℕ
drops_of_row address line = drops_of_words address (row_words line)

-- all rows of that address, in 64 bits
abbrev pub dropped_in : List ℕ → List ℕ → ℕ
dropped_in address table = min (sum_by (drops_of_row address) (lines_of table)) (2 ^ 64 - 1)
