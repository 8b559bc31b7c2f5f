-- What those who follow are told of who came and went.
use Rattle.std.specs.Prelude.{ℕ, ◌+◌, ◌++◌, Bool, true, false, List, [], ◌∷◌, codes}
use Rattle.std.specs.Fmt.{decimal}

-- an endpoint that wasn't present, and is, has joined; one that was, and isn't, has left
abbrev pub change_line : ℕ → Bool → Bool → List ℕ
change_line endpoint false true = codes "joined " ++ (decimal endpoint ++ codes "\n")
change_line endpoint true false = codes "left " ++ (decimal endpoint ++ codes "\n")
change_line endpoint true true = []
change_line endpoint false false = []

-- The lines of endpoints from this number on, by who was present before and who is after: those that weren't known before weren't present.
abbrev pub presence_news : ℕ → List Bool → List Bool → List ℕ
presence_news endpoint before [] = []
presence_news endpoint [] (is ∷ after) = change_line endpoint false is ++ presence_news (endpoint + 1) [] after
presence_news endpoint (was ∷ before) (is ∷ after) =
    change_line endpoint was is ++ presence_news (endpoint + 1) before after
