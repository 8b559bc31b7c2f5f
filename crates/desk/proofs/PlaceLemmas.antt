-- Places in a history, and what its first entry leaves to the others.
use Rattle.std.proofs.Common.{◌≡◌, ℕ, zero, suc, ◌+◌, ◌<◌, ◌≤◌, List, [], ◌∷◌, length, take, fold, refl, sym, ap, subst, ◌∙◌, arith}
use Rattle.std.specs.Prelude.{slice_get}
use Rattle.std.proofs.lemmas.Option.{slice_get_within, none-some, same_Some}
use Rattle.desk.specs.declared.call.Entry.{Entry}
use Rattle.desk.specs.declared.base.Base.{Base}
use Rattle.desk.specs.Call.{moment_after}
use Rattle.desk.specs.Trace.{base_with}
use Rattle.desk.specs.Places.{HasEntryAt, greatest_until}

-- ---- the first place and the others

pub not_in_nil : (P : Entry → Type 0) (place : ℕ) → ¬ HasEntryAt P [] place
not_in_nil P place s = none-some s.entry s.there

pub at_head : (P : Entry → Type 0) (e : Entry) (entries : List Entry) → P e → HasEntryAt P (e ∷ entries) 0
at_head P e entries is = record { entry = e; there = refl; is = is }

pub head_is : (P : Entry → Type 0) (e : Entry) (entries : List Entry) → HasEntryAt P (e ∷ entries) 0 → P e
head_is P e entries s = subst P (sym (same_Some e s.entry s.there)) s.is

pub at_tail : (P : Entry → Type 0) (e : Entry) (entries : List Entry) (place : ℕ) → HasEntryAt P entries place → HasEntryAt P (e ∷ entries) (suc place)
at_tail P e entries place s = record { entry = s.entry; there = s.there; is = s.is }

pub from_tail : (P : Entry → Type 0) (e : Entry) (entries : List Entry) (place : ℕ) → HasEntryAt P (e ∷ entries) (suc place) → HasEntryAt P entries place
from_tail P e entries place s = record { entry = s.entry; there = s.there; is = s.is }

pub within : (P : Entry → Type 0) (entries : List Entry) (place : ℕ) → HasEntryAt P entries place → place < length entries
within P entries place s = slice_get_within entries place s.entry s.there

-- ---- from a place on

abbrev pub NoneFrom : (Entry → Type 0) → List Entry → ℕ → Type 0
NoneFrom P entries from = (place : ℕ) → from ≤ place → ¬ HasEntryAt P entries place

pub none_later : (P : Entry → Type 0) (e : Entry) (entries : List Entry) (from : ℕ) → NoneFrom P entries from → NoneFrom P (e ∷ entries) (suc from)
none_later P e entries from none zero after s = absurd (omega arith)
none_later P e entries from none (suc place) after s = none place (omega arith) (from_tail P e entries place s)

pub none_cons : (P : Entry → Type 0) (e : Entry) (entries : List Entry) → ¬ P e → NoneFrom P entries 0 → NoneFrom P (e ∷ entries) 0
none_cons P e entries not_here none zero after s = not_here (head_is P e entries s)
none_cons P e entries not_here none (suc place) after s = none place (omega arith) (from_tail P e entries place s)

pub none_tail : (P : Entry → Type 0) (e : Entry) (entries : List Entry) (from : ℕ) → NoneFrom P (e ∷ entries) (suc from) → NoneFrom P entries from
none_tail P e entries from none place after s = none (suc place) (omega arith) (at_tail P e entries place s)

pub none_rest : (P : Entry → Type 0) (e : Entry) (entries : List Entry) → NoneFrom P (e ∷ entries) 0 → NoneFrom P entries 0
none_rest P e entries none place after s = none (suc place) (omega arith) (at_tail P e entries place s)

-- ---- parts that reach beyond the place

slice_get-take : (n : ℕ) (entries : List Entry) (place : ℕ) → place < n → slice_get (take n entries) place ≡ slice_get entries place
slice_get-take zero entries place below = absurd (omega arith)
slice_get-take (suc n) [] place below = refl
slice_get-take (suc n) (e ∷ entries) zero below = refl
slice_get-take (suc n) (e ∷ entries) (suc place) below = slice_get-take n entries place (omega arith)

pub to_part : (P : Entry → Type 0) (n : ℕ) (entries : List Entry) (place : ℕ) → place < n → HasEntryAt P entries place → HasEntryAt P (take n entries) place
to_part P n entries place below s = record { entry = s.entry; there = slice_get-take n entries place below ∙ s.there; is = s.is }

pub to_whole : (P : Entry → Type 0) (n : ℕ) (entries : List Entry) (place : ℕ) → place < n → HasEntryAt P (take n entries) place → HasEntryAt P entries place
to_whole P n entries place below s = record { entry = s.entry; there = sym (slice_get-take n entries place below) ∙ s.there; is = s.is }

-- ---- the greatest moment

abbrev pub greatest_from : ℕ → List Entry → ℕ
greatest_from least entries = fold (λ m (e : Entry). moment_after m e.call) least entries

pub greatest-tail : (request_ms : ℕ) (base : Base) (e : Entry) (entries : List Entry) (place : ℕ)
    → greatest_until base (e ∷ entries) (suc place) ≡ greatest_until (base_with request_ms base e) entries place
greatest-tail request_ms base e entries place =
    ap (λ n. greatest_from base.greatest (take n (e ∷ entries))) {x = suc place + 1} {y = suc (place + 1)} (omega arith)
