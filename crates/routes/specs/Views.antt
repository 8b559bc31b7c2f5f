-- What contracts see of a reader, of the writer and of the table that lies between them.
use Rattle.std.specs.Prelude.{ℕ, ◌≡◌, Bool, List, [], ◌∷◌, ◌++◌, fold, MatchBool}
use mathlib.Core.List.{IsPrefix}
use Rattle.logbook.specs.Pages.{Book}
use Rattle.members.specs.declared.order.Row.{Row}
use Rattle.members.specs.declared.order.Change.{Change}
use Rattle.routes.specs.declared.mark.Mark.{Mark}
use Rattle.routes.specs.declared.table.Batch.{Batch}
use Rattle.routes.specs.declared.table.Table.{Table}
use Rattle.members.specs.Rows.{row_changed, opening_rows, rows_after}
use Rattle.routes.specs.Publications.{Publication, changes_of}

-- a reader: the published changes that it saw or was told of, and the rows that it saw last
pub record ReaderView : Type 0 where
  pub known : List Change
  pub rows : List Row

-- whether one who knows the first changes knows the others too: if so those begin the first, else the first
-- begin those
abbrev pub Knows : Bool → List Change → List Change → Type 0
Knows answer known told = MatchBool answer (IsPrefix told known) (IsPrefix known told)

-- the rows after some published changes, which begin with these
pub record AreRowsPast (legs : ℕ) (known : List Change) (rows : List Row) : Type 0 where
  pub seen : List Change
  pub begins : IsPrefix known seen
  pub after : rows ≡ rows_after legs seen

-- a reader that has seen nothing
abbrev pub IsOpening : ℕ → ReaderView → Type 0
IsOpening legs r = (r.known ≡ []) × (r.rows ≡ opening_rows legs)

-- the writer: the published changes, and those that were noted since
pub record WriterView : Type 0 where
  pub published : List Change
  pub noted : List Change

-- a table that has no name yet
pub record BlankView : Type 0 where
  pub book : Book
  pub legs : ℕ

-- The table's mark, which knows publications, is of this book, and its rows are those after their changes.
-- So it is with the table that readers take, and with each reader's copy.
abbrev pub IsTable : Book → ℕ → Table → Type 0
IsTable book legs t =
    (t.mark.seen.book ≡ book) × (t.rows.items ≡ rows_after legs (changes_of t.mark.seen.log))

-- a look at the table: either more is known, and the rows are those after it, or nothing changed
abbrev pub Sees : ℕ → List Publication → List Row → Bool → List Publication → List Row → Type 0
Sees legs log rows is_new known copy = MatchBool is_new (IsPrefix log known
    × (copy ≡ rows_after legs (changes_of known))) ((known ≡ log) × (copy ≡ rows))

-- the batch makes the publication that follows this log
abbrev pub IsNext : Book → List Publication → Batch → Type 0
IsNext book log b = (b.mark.seen.book ≡ book) × (b.mark.seen.log ≡ log ++ b.changes.items ∷ [])

-- the mark and the rows of a table once it took in these batches
abbrev pub mark_after : Mark → List Batch → Mark
mark_after m pending = fold (λ (_ : Mark) (b : Batch). b.mark) m pending

abbrev pub rows_with : List Row → Batch → List Row
rows_with rows b = fold row_changed rows b.changes.items

-- once the table took in the batches that wait for it, its mark is of this book and has this log, and its
-- rows are those after it
abbrev pub IsAhead : Book → ℕ → List Publication → List Batch → Table → Type 0
IsAhead book legs log pending t =
    ((mark_after t.mark pending).seen.book ≡ book)
    × ((mark_after t.mark pending).seen.log ≡ log)
    × (fold rows_with t.rows.items pending ≡ rows_after legs (changes_of log))
