-- The words of a line, and the numbers that they spell.
use Rattle.std.specs.Prelude.{◌==◌, ◌&&◌, ℕ, List, Option, Some, None, nat_lt, if◌then◌else◌}
use Rattle.std.specs.List.{slice_split}
use Rattle.std.specs.Str.Parse.{digits_value}
use Rattle.clap.specs.ValueTests.{is_numeral}

-- what stands between the spaces of a line
abbrev pub words_in : List ℕ → List (List ℕ)
words_in line = slice_split (λ c. c == 32) line

-- the number below the limit that decimal digits spell
abbrev pub number_under : ℕ → List ℕ → Option ℕ
number_under limit word = if is_numeral word && nat_lt (digits_value 10 word) limit
    then Some (digits_value 10 word) else None
