-- The labels of samples, as the text format of Prometheus has them.
use Rattle.std.specs.Prelude.{ℕ, ◌==◌, ◌++◌, List, [], ◌∷◌, codes, flat_map, if◌then◌else◌}
use Rattle.std.specs.Char.{is_ascii}
use Rattle.std.specs.Fmt.{decimal}

-- what isn't ASCII, which no name has, is an underscore
abbrev pub or_underscore : ℕ → ℕ
or_underscore b = if is_ascii b then b else 95

-- a backslash stands before a backslash and before a quotation mark, and with an n for the end of a line
abbrev pub escaped_byte : ℕ → List ℕ
escaped_byte b =
    if b == 92 then 92 ∷ (92 ∷ [])
    else if b == 34 then 92 ∷ (34 ∷ [])
    else if b == 10 then 92 ∷ (110 ∷ [])
    else or_underscore b ∷ []

abbrev pub escaped : List ℕ → List ℕ
escaped value = flat_map escaped_byte value

abbrev pub number_label : List ℕ → ℕ → List ℕ
number_label label number = label ++ (codes "=\"" ++ (decimal number ++ codes "\""))

-- a label whose value is a text
abbrev pub label_text : List ℕ → List ℕ → List ℕ
label_text start value = start ++ (escaped value ++ codes "\"")

-- of an endpoint its number, and what it is called
abbrev pub endpoint_labels : ℕ → List ℕ → List ℕ
endpoint_labels endpoint name =
    number_label (codes "endpoint") endpoint ++ label_text (codes ",name=\"") name

-- of a leg its number, and what its ends are called
abbrev pub leg_labels : ℕ → List ℕ → List ℕ → List ℕ
leg_labels leg publisher subscriber =
    number_label (codes "leg") leg
    ++ (label_text (codes ",publisher=\"") publisher ++ label_text (codes ",subscriber=\"") subscriber)
