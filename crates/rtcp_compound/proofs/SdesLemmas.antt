-- Walking over items and chunks.
use Rattle.std.proofs.Common.{◌≡◌, ◌∙◌, ℕ, zero, suc, ◌+◌, ◌-◌, ◌<◌, ◌≤◌, List, [], ◌∷◌, length, take, drop, get_or, Some, None, refl, sym, ap, arith}
use Rattle.std.specs.Prelude.{◌==◌, option_and_then}
use Rattle.std.proofs.lemmas.Bool.{cond-true, cond-false, eq-eqb, ne_eqb}
use Rattle.std.proofs.lemmas.List.{take_rest}
use Rattle.rtcp_compound.specs.Reading.{after_items, after_chunk, after_chunks}

pub items_skip : (n : ℕ) (bs : List ℕ) → n ≤ length bs → after_items n bs ≡ after_items 0 (drop n bs)
items_skip zero bs h = refl
items_skip (suc n) [] h = absurd (omega arith)
items_skip (suc n) (b ∷ bs) h = items_skip n bs (omega arith)

pub items_short : (n : ℕ) (bs : List ℕ) → length bs < n → after_items n bs ≡ None
items_short zero bs h = absurd (omega arith)
items_short (suc n) [] h = refl
items_short (suc n) (b ∷ bs) h = items_short n bs (omega arith)

pub items_end : (bs : List ℕ) → 0 < length bs → get_or bs 0 0 ≡ 0 → after_items 0 bs ≡ Some (drop 1 bs)
items_end [] h e = absurd (omega arith)
items_end (k ∷ []) h e = cond-true (k == 0) _ _ (eq-eqb k 0 e)
items_end (k ∷ (len ∷ bs)) h e = cond-true (k == 0) _ _ (eq-eqb k 0 e)

pub items_step : (bs : List ℕ) (n : ℕ) → (get_or bs 0 0 ≡ 0 → ⊥) → 2 ≤ length bs → n ≡ 2 + get_or bs 1 0 → n ≤ length bs → after_items 0 (take (length bs - n) (drop n bs)) ≡ after_items 0 bs
items_step [] n ne two is h = absurd (omega arith)
items_step (k ∷ []) n ne two is h = absurd (omega arith)
items_step (k ∷ (len ∷ bs)) n ne two is h =
    let two_more : n ≡ suc (suc len) = omega arith in
    ap (after_items 0) (take_rest (k ∷ (len ∷ bs)) n) ∙ ap (λ m. after_items 0 (drop m (k ∷ (len ∷ bs)))) two_more
    ∙ sym (items_skip len bs (omega arith)) ∙ sym (cond-false (k == 0) _ _ (ne_eqb k 0 ne))

pub items_single : (bs : List ℕ) → (get_or bs 0 0 ≡ 0 → ⊥) → length bs < 2 → after_items 0 bs ≡ None
items_single [] ne h = refl
items_single (k ∷ []) ne h = cond-false (k == 0) _ _ (ne_eqb k 0 ne)
items_single (k ∷ (len ∷ bs)) ne h = absurd (omega arith)

pub items_cut : (bs : List ℕ) → (get_or bs 0 0 ≡ 0 → ⊥) → 2 ≤ length bs → length bs < 2 + get_or bs 1 0 → after_items 0 bs ≡ None
items_cut [] ne two h = absurd (omega arith)
items_cut (k ∷ []) ne two h = absurd (omega arith)
items_cut (k ∷ (len ∷ bs)) ne two h = cond-false (k == 0) _ _ (ne_eqb k 0 ne) ∙ items_short len bs (omega arith)

pub chunks_step : (n : ℕ) (body r : List ℕ) → 0 < n → after_chunk body ≡ Some r → after_chunks (n - 1) r ≡ after_chunks n body
chunks_step zero body r h e = absurd (omega arith)
chunks_step (suc n) body r h e = let one : suc n - 1 ≡ n = omega arith in ap (λ m. after_chunks m r) one ∙ sym (ap (option_and_then (after_chunks n)) e)
