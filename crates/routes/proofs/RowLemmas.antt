-- Rows after changes.
use Rattle.std.proofs.Common.{◌≡◌, ℕ, Bool, true, false, List, [], ◌∷◌, ◌++◌, length, fold, slice_set, refl, ap, sym, ◌∙◌, MatchBool}
use Rattle.std.proofs.lemmas.List.{append-nil, length-set, length-replicate}
use Rattle.std.proofs.lemmas.List.Sums.{fold-append}
use Rattle.std.proofs.lemmas.Grind.{flat_map-append}
use mathlib.Core.List.{IsPrefix}
use Rattle.members.specs.declared.order.Row.{Row}
use Rattle.members.specs.declared.order.Change.{Change}
use Rattle.members.specs.Rows.{row_changed, opening_rows, rows_after}
use Rattle.members.specs.Stays.{opening_row}
use Rattle.routes.specs.Publications.{Publication, changes_of}

-- changes keep the number of rows
pub changed_length : (rows : List Row) (changes : List Change) → length (fold row_changed rows changes) ≡ length rows
changed_length rows [] = refl
changed_length rows (c ∷ cs) = changed_length (slice_set rows c.leg c.row) cs ∙ length-set rows c.leg c.row

pub rows_after_length : (legs : ℕ) (changes : List Change) → length (rows_after legs changes) ≡ legs
rows_after_length legs changes = changed_length (opening_rows legs) changes ∙ length-replicate legs opening_row

-- a log that begins another has its changes first
pub changes_begin : (xs ys : List Publication) → IsPrefix xs ys → IsPrefix (changes_of xs) (changes_of ys)
changes_begin xs ys p = (changes_of p.0, sym (flat_map-append (λ q. q) xs p.0) ∙ ap changes_of p.1)

-- so are the changes of two logs, of which one begins the other
pub changes_begin_by : (b : Bool) (xs ys : List Publication) → MatchBool b (IsPrefix xs ys) (IsPrefix ys xs) → MatchBool b (IsPrefix (changes_of xs) (changes_of ys)) (IsPrefix (changes_of ys) (changes_of xs))
changes_begin_by true xs ys h = changes_begin xs ys h
changes_begin_by false xs ys h = changes_begin ys xs h

-- one publication more
pub changes_more : (log : List Publication) (e : Publication) → changes_of (log ++ e ∷ []) ≡ changes_of log ++ e
changes_more log e = flat_map-append (λ q. q) log (e ∷ []) ∙ ap (λ z. changes_of log ++ z) (append-nil e)

pub rows_more : (legs : ℕ) (log : List Publication) (e : Publication) → rows_after legs (changes_of (log ++ e ∷ [])) ≡ fold row_changed (rows_after legs (changes_of log)) e
rows_more legs log e = ap (rows_after legs) (changes_more log e) ∙ fold-append row_changed (opening_rows legs) (changes_of log) e
