-- Which endpoints there are.
use Rattle.std.specs.Prelude.{ℕ, ◌^◌, List, [], ◌∷◌, Option, None, Some, codes, flat_map, if◌then◌else◌}
use Rattle.std.specs.Str.{bytes_eq}
use Rattle.request_text.specs.Lines.{lines_of}
use Rattle.request_text.specs.Words.{number_under, words_in}
use Rattle.web.specs.Words.{word_at}

abbrev pub as_list : {A : Type 0} → Option A → List A
as_list (Some x) = x ∷ []
as_list None = []

-- N ssrc ..
abbrev pub words_number : List (List ℕ) → Option ℕ
words_number words = if bytes_eq (word_at words 1) (codes "ssrc")
    then number_under (2 ^ 16) (word_at words 0) else None

abbrev pub line_numbers : List ℕ → List ℕ
line_numbers line = as_list (words_number (words_in line))

-- the numbers of the endpoints that lines tell of
unfoldable pub numbers_in : List ℕ → List ℕ
numbers_in text = flat_map line_numbers (lines_of text)
