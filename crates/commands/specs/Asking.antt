-- The line by which a unit is asked.
use Rattle.std.specs.Prelude.{ℕ, List, [], ◌∷◌, ◌++◌, codes, flat_map}

abbrev pub spaced : List ℕ → List ℕ
spaced word = codes " " ++ word

-- the line by which `sfu ask` asks: its words with a space between each two, and the end of the line
abbrev pub asking_line : List (List ℕ) → List ℕ
asking_line [] = codes "\n"
asking_line (word ∷ words) = (word ++ flat_map spaced words) ++ codes "\n"
