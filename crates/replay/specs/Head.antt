-- What the head of a record says: which settings its unit had, and what the wall clock said at moment 0.
use Rattle.std.specs.Prelude.{◌&&◌, ℕ, ◌^◌, not, Bool, true, false, List, [], ◌∷◌, Option, None, codes, if◌then◌else◌}
use Rattle.std.specs.Str.{bytes_eq}
use Rattle.hex.specs.Hex.{encode_lower}
use Rattle.request_text.specs.Lines.{lines_of}
use Rattle.request_text.specs.Words.{number_under, words_in}

-- `# sfu VERSION`
abbrev pub names_program : List (List ℕ) → Bool
names_program (mark ∷ (name ∷ (version ∷ []))) =
    bytes_eq mark (codes "#") && bytes_eq name (codes "sfu")
names_program words = false

abbrev pub marks_settings : List ℕ → List ℕ → Bool
marks_settings mark name = bytes_eq mark (codes "#") && bytes_eq name (codes "settings")

-- `# settings DIGEST`, with other hexadecimal digits than those of this digest
abbrev pub names_others : List ℕ → List (List ℕ) → Bool
names_others digest (mark ∷ (name ∷ (said ∷ []))) =
    marks_settings mark name && not (bytes_eq said (encode_lower digest))
names_others digest words = false

abbrev pub marks_clock : List ℕ → List ℕ → List ℕ → List ℕ → Bool
marks_clock mark word moment unit =
    (bytes_eq mark (codes "#") && bytes_eq word (codes "moment"))
    && (bytes_eq moment (codes "0") && bytes_eq unit (codes "unix_ms"))

abbrev pub number_if : Bool → List ℕ → Option ℕ
number_if said word = if said then number_under (2 ^ 64) word else None

-- `# moment 0 unix_ms MS`
abbrev pub clock_said : List (List ℕ) → Option ℕ
clock_said (mark ∷ (word ∷ (moment ∷ (unit ∷ (ms ∷ []))))) =
    number_if (marks_clock mark word moment unit) ms
clock_said words = None

abbrev pub is_head_of_others : List ℕ → List (List ℕ) → Bool
is_head_of_others digest (program ∷ (settings ∷ others)) =
    names_program (words_in program) && names_others digest (words_in settings)
is_head_of_others digest lines = false

-- the first lines of a script are those of a record whose unit had other settings than those of this digest
abbrev pub is_of_others : List ℕ → List ℕ → Bool
is_of_others digest script = is_head_of_others digest (lines_of script)

abbrev pub head_clock : List (List ℕ) → Option ℕ
head_clock (program ∷ (settings ∷ (clock ∷ others))) =
    if names_program (words_in program) then clock_said (words_in clock) else None
head_clock lines = None

-- what the wall clock said at moment 0, in milliseconds since the beginning of 1970, if that is asked for and a script's head says it
abbrev pub clock_in : Bool → List ℕ → Option ℕ
clock_in false script = None
clock_in true script = head_clock (lines_of script)
