-- Lines one after the other.
use Rattle.std.proofs.Common.{◌≡◌, ℕ, suc, ◌+◌, ◌<◌, ◌≤◌, List, ◌∷◌, map, Bor, length, drop, get_or, drop-cons, add-one, Result, Ok, Err, refl, sym, ap, subst, ◌∙◌, inl, inr}
use Rattle.std.proofs.lemmas.List.{drop_all, get_or-map, length-map}
use Rattle.request_text.specs.declared.bound.Refusal.{Refusal}
use Rattle.request_text.specs.declared.bound.Refusal.TheVariants.{NoMemory, Line}
use Rattle.request_text.specs.Lines.{Asked, LineLeaves, LinesLeave, Refused, TextLeaves}
use Rattle.request_text.specs.Outcome.{RefusesLine, RefusesText}

-- the line that a loop is at, and the others
pub at_line : (i : ℕ) (lines : List (Bor (List ℕ))) (d : Bor (List ℕ)) → i < length lines
    → drop i (map (λ (x : Bor (List ℕ)). x.now) lines) ≡ (get_or lines i d).now ∷ drop (i + 1) (map (λ (x : Bor (List ℕ)). x.now) lines)
at_line i lines d below =
    let text = λ (x : Bor (List ℕ)). x.now in
    let line = (get_or lines i d).now in
    let is : get_or (map text lines) i line ≡ line = get_or-map text lines i d line below in
    let lt : i < length (map text lines) = rw length-map below in
    drop-cons (map text lines) i line lt ∙ (λ j. is j ∷ drop (suc i) (map text lines))
    ∙ ap (λ k. line ∷ drop k (map text lines)) (sym (add-one i))

-- after the last line nothing changes
pub at_end : (media i : ℕ) (lines : List (Bor (List ℕ))) (now : List Asked) → length lines ≤ i
    → LinesLeave media (i + 1) (drop i (map (λ (x : Bor (List ℕ)). x.now) lines)) now (Ok now)
at_end media i lines now past =
    let texts = map (λ (x : Bor (List ℕ)). x.now) lines in
    let all : length texts ≤ i = rw length-map past in
    subst (λ (ls : List (List ℕ)). LinesLeave media (i + 1) ls now (Ok now)) (sym (drop_all i texts all)) refl

pub goes_on : (media i : ℕ) (lines : List (Bor (List ℕ))) (d : Bor (List ℕ)) (now next : List Asked) (left : Result (List Asked) Refused) → i < length lines
    → LineLeaves media (get_or lines i d).now now (Ok next)
    → LinesLeave media (i + 1 + 1) (drop (i + 1) (map (λ (x : Bor (List ℕ)). x.now) lines)) next left
    → LinesLeave media (i + 1) (drop i (map (λ (x : Bor (List ℕ)). x.now) lines)) now left
goes_on media i lines d now next left below one others =
    subst (λ (ls : List (List ℕ)). LinesLeave media (i + 1) ls now left) (sym (at_line i lines d below)) (inl (next, one, others))

-- the line's fault is that of the text
pub stops : (media i number : ℕ) (lines : List (Bor (List ℕ))) (d : Bor (List ℕ)) (now : List Asked) (text : List ℕ) (refusal : Refusal) → i < length lines
    → number ≡ i
    → ((left : Result (List Asked) Refused) → LinesLeave media (i + 1) (drop i (map (λ (x : Bor (List ℕ)). x.now) lines)) now left → TextLeaves media text left)
    → RefusesLine media (number + 1) (get_or lines i d).now now refusal → RefusesText media text refusal
stops media i number lines d now text NoMemory below counted all refuses = tt
stops media i number lines d now text (Line line fault) below counted all refuses =
    let place : line ≡ i + 1 = refuses.0 ∙ ap (λ (n : ℕ). n + 1) counted in
    all (Err (record { line = line; fault = fault }))
    (subst (λ (ls : List (List ℕ)). LinesLeave media (i + 1) ls now (Err (record { line = line; fault = fault }))) (sym (at_line i lines d below))
    (inr (fault, refuses.1, λ j. Err (record { line = place j; fault = fault }))))
