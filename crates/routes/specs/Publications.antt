-- The book of publications, each the list of changes made at once.
use Rattle.std.specs.Prelude.{ℕ, ◌≡◌, ◌+◌, ◌*◌, ◌<◌, ◌≤◌, ◌==◌, true, List, [], ◌∷◌, ◌++◌, length, flat_map, MatchBool}
use Rattle.logbook.specs.Pages.{Cell, cell, Step, View, Book, Named, nib, may_make, may_write}
use Rattle.logbook.specs.declared.tokens.Pen.{Pen}
use Rattle.members.specs.declared.order.Change.{Change}

abbrev pub Publication : Type 0
Publication = List Change

-- all changes of these publications, in order
abbrev pub changes_of : List Publication → List Change
changes_of log = flat_map (λ p. p) log

-- Each publication uses up a right to publish, of which there is one at most. A right is a word that isn't at home, and a publication
-- brings it home. The first word is twice the publications, and one more while there is a right; the second one stays as it was, and
-- behind them there is one for each right so far, in order.
pub record IsCounted (cells : List Cell) (log : List Publication) : Type 0 where
  pub rights : ℕ
  pub one : rights ≤ 1
  pub head : cell cells 0 ≡ (2 * length log + rights, true)
  pub words : length cells ≡ length log + 2 + rights
  pub home : (k : ℕ) → k < length log + 2 → (cell cells k).1 ≡ true

-- the word that counts the publications of a book
abbrev pub head_of : Book → Named
head_of b = record { tracked = true; key = 0; book = b }

-- the pen is the right to the publication that follows this log in the book: nobody else publishes while it is held
abbrev pub MayPublish : Book → List Publication → Pen → Type 0
MayPublish book log right = (right.book ≡ book) × (right.nib ≡ nib may_write (length log + 2) 0)

-- if the number found is the one expected, there was no right to publish, and the one that follows what was seen may be made
abbrev pub Opens : Step Publication → View Publication ℕ → ℕ → View Publication ℕ → Type 0
Opens s v found w = MatchBool (found == s.old) (w.1.0 ≡ nib may_make (length v.0 + 2) 0) (Unit {0})

-- the publication was put after all that was seen
abbrev pub Publishes : Step Publication → View Publication ℕ → ℕ → View Publication ℕ → Type 0
Publishes s v found w = w.0 ≡ v.0 ++ s.ask ∷ []

-- the right to publish is held still, and all publications before it were seen
abbrev pub SeesAll : Step Publication → View Publication ℕ → ℕ → View Publication ℕ → Type 0
SeesAll s v found w = (w.1.0 ≡ v.1.0) × (length w.0 + 2 ≡ v.1.0.key)
