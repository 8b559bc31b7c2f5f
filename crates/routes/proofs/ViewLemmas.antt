-- What readers see, and what the table holds once it took in what waits for it.
use Rattle.std.proofs.Common.{◌≡◌, ℕ, Bool, true, false, List, [], ◌∷◌, ◌++◌, fold, refl, ap, sym, ◌∙◌, subst, MatchBool}
use Rattle.std.proofs.lemmas.List.Sums.{fold-append}
use mathlib.Core.List.{IsPrefix}
use Rattle.logbook.specs.Pages.{Book}
use Rattle.members.specs.declared.order.Row.{Row}
use Rattle.members.specs.declared.order.Change.{Change}
use Rattle.routes.specs.declared.mark.Mark.{Mark}
use Rattle.routes.specs.declared.table.Batch.{Batch}
use Rattle.routes.specs.declared.table.Table.{Table}
use Rattle.members.specs.Rows.{row_changed, rows_after}
use Rattle.routes.specs.Publications.{Publication, changes_of}
use Rattle.routes.specs.Views.{ReaderView, IsTable, IsAhead, IsNext, Sees, mark_after, rows_with}
use Rattle.routes.proofs.RowLemmas.{changes_begin, changes_begin_by, rows_more}

-- a look of the parts is one of the reader
pub entered : (legs : ℕ) (log : List Publication) (rows : List Row) (is_new : Bool) (known : List Publication) (copy : List Row) (v : ReaderView)
    → record { known = changes_of log; rows = rows } ≡ v → Sees legs log rows is_new known copy
    → MatchBool is_new (IsPrefix v.known (changes_of known) × (copy ≡ rows_after legs (changes_of known))) (record { known = changes_of known; rows = copy } ≡ v)
entered legs log rows true known copy v is s = (subst (λ (w : ReaderView). IsPrefix w.known (changes_of known)) is (changes_begin log known s.0), s.1)
entered legs log rows false known copy v is s = rw (s.0, s.1) is

-- a note and a reader: one of the two lists begins the other
pub knows_by : (b : Bool) (told known : List Publication) (rows : List Row) (n : List Change) (v : ReaderView)
    → changes_of told ≡ n → record { known = changes_of known; rows = rows } ≡ v
    → MatchBool b (IsPrefix told known) (IsPrefix known told) → MatchBool b (IsPrefix n v.known) (IsPrefix v.known n)
knows_by b told known rows n v told_is is h =
    let told_begins = changes_begin_by b told known h in
    let of_note = subst (λ (l : List Change). MatchBool b (IsPrefix l (changes_of known)) (IsPrefix (changes_of known) l)) told_is told_begins in
    subst (λ (w : ReaderView). MatchBool b (IsPrefix n w.known) (IsPrefix w.known n)) is of_note

-- taking in batches, apart in rows and mark
pub absorbs : {S : Type 0} (seen : Mark → S) (pending : List Batch) (rows : List Row) (m : Mark)
    → fold (λ (s : List Row × S) (b : Batch). (fold row_changed s.0 b.changes.items, seen b.mark)) (rows, seen m) pending ≡ (fold rows_with rows pending, seen (mark_after m pending))
absorbs seen [] rows m = refl
absorbs seen (b ∷ bs) rows m = absorbs seen bs (rows_with rows b) b.mark

-- the batch that comes next is ahead of all
pub ahead_more : (book : Book) (legs : ℕ) (log : List Publication) (pending : List Batch) (t : Table) (b : Batch)
    → IsAhead book legs log pending t → IsNext book log b → IsAhead book legs b.mark.seen.log (pending ++ b ∷ []) t
ahead_more book legs log pending t b ahead next =
    let last : mark_after t.mark (pending ++ b ∷ []) ≡ b.mark = fold-append (λ (_ : Mark) (b : Batch). b.mark) t.mark pending (b ∷ []) in (
      ap (λ (m : Mark). m.seen.book) last ∙ next.0,
      ap (λ (m : Mark). m.seen.log) last,
      fold-append rows_with t.rows.items pending (b ∷ []) ∙ (ap (λ (r : List Row). fold row_changed r b.changes.items) ahead.2
          ∙ (sym (rows_more legs log b.changes.items) ∙ ap (λ (l : List Publication). rows_after legs (changes_of l)) (sym next.1))),
    )

-- once the table took in all, nothing waits for it
pub ahead_shown : {S : Type 0} (seen : Mark → S) (book_of : S → Book) (log_of : S → List Publication)
    → ((m : Mark) → book_of (seen m) ≡ m.seen.book) → ((m : Mark) → log_of (seen m) ≡ m.seen.log)
    → (book : Book) (legs : ℕ) (log : List Publication) (pending : List Batch) (t next : Table) → IsAhead book legs log pending t
    → (next.rows.items, seen next.mark) ≡ fold (λ (s : List Row × S) (b : Batch). (fold row_changed s.0 b.changes.items, seen b.mark)) (t.rows.items, seen t.mark) pending
    → IsAhead book legs log [] next
ahead_shown seen book_of log_of books logs book legs log pending t next ahead is =
    let e = is ∙ absorbs seen pending t.rows.items t.mark in
    let m = mark_after t.mark pending in (
      sym (books next.mark) ∙ (ap (λ p. book_of p.1) e ∙ (books m ∙ ahead.0)),
      sym (logs next.mark) ∙ (ap (λ p. log_of p.1) e ∙ (logs m ∙ ahead.1)),
      ap (λ p. p.0) e ∙ ahead.2,
    )

-- a table for which nothing waits is as the rule says
pub ahead_table : (book : Book) (legs : ℕ) (log : List Publication) (t : Table) → IsAhead book legs log [] t → IsTable book legs t
ahead_table book legs log t ahead = (ahead.0, ahead.2 ∙ ap (λ (l : List Publication). rows_after legs (changes_of l)) (sym ahead.1))
