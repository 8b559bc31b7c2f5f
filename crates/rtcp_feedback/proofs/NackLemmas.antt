-- The numbers that an entry names, one place of its bits after the other.
use Rattle.std.proofs.Common.{◌≡◌, ◌∙◌, ℕ, zero, suc, ◌+◌, ◌-◌, ◌/◌, ◌%◌, ◌^◌, ◌≤◌, Bool, true, false, List, [], ◌∷◌, ◌++◌, map, length, cond, bit_and, refl, sym, ap, arith, add-zero}
use Rattle.std.specs.List.{filter, range_with_len}
use Rattle.std.proofs.lemmas.List.{map-append, append-nil, length-map}
use Rattle.std.proofs.lemmas.List.FromFn.{length-range_with_len}
use Rattle.std.proofs.lemmas.Nat.{and_mask}
use Rattle.std.proofs.lemmas.Bool.{eq-eqb, ne_eqb}
use Rattle.std.proofs.lemmas.List.Elements.{filter-append}
use Rattle.rtcp_feedback.specs.declared.nack.Nack.{Nack}
use Rattle.rtcp_feedback.specs.Nack.{is_set, lost_numbers}

-- those among the first so many bits
abbrev pub numbers_among : Nack → ℕ → List ℕ
numbers_among n k = n.pid ∷ map (λ i. (n.pid + i) % 65536) (filter (is_set n.blp) (range_with_len 1 k))

pub numbers_all : (n : Nack) → numbers_among n 16 ≡ lost_numbers n
unfolding lost_numbers
numbers_all n = refl

range_more : (a n : ℕ) → range_with_len a (suc n) ≡ range_with_len a n ++ (a + n) ∷ []
range_more a zero = ap (λ (y : ℕ). y ∷ []) (sym (add-zero a))
range_more a (suc n) =
    let moved : (a + 1) + n ≡ a + suc n = omega arith in
    ap (λ (r : List ℕ). a ∷ r) (range_more (a + 1) n ∙ ap (λ (j : ℕ). range_with_len (a + 1) n ++ j ∷ []) moved)

filter_one : (p : ℕ → Bool) (x : ℕ) (b : Bool) → p x ≡ b → filter p (x ∷ []) ≡ cond b (x ∷ []) []
filter_one p x b e = ap (λ (y : Bool). cond y (x ∷ []) []) e

filter_more : (p : ℕ → Bool) (n : ℕ) (b : Bool) → p (1 + n) ≡ b → filter p (range_with_len 1 (suc n)) ≡ filter p (range_with_len 1 n) ++ cond b ((1 + n) ∷ []) []
filter_more p n b e = ap (filter p) (range_more 1 n) ∙ filter-append p (range_with_len 1 n) ((1 + n) ∷ []) ∙ ap (λ (r : List ℕ). filter p (range_with_len 1 n) ++ r) (filter_one p (1 + n) b e)

-- the bit at place i is set
pub numbers_set : (n : Nack) (i : ℕ) → 1 ≤ i → is_set n.blp i ≡ true → numbers_among n (i + 1 - 1) ≡ numbers_among n (i - 1) ++ ((n.pid + i) % 65536) ∷ []
numbers_set n i h e =
    let up : i + 1 - 1 ≡ suc (i - 1) = omega arith in
    let here : 1 + (i - 1) ≡ i = omega arith in
    let f : ℕ → ℕ = λ j. (n.pid + j) % 65536 in
    let more = filter_more (is_set n.blp) (i - 1) true (ap (is_set n.blp) here ∙ e) in
    ap (numbers_among n) up
    ∙ ap (λ (r : List ℕ). n.pid ∷ map f r) more
    ∙ ap (λ (r : List ℕ). n.pid ∷ r) (map-append f (filter (is_set n.blp) (range_with_len 1 (i - 1))) ((1 + (i - 1)) ∷ []))
    ∙ ap (λ (j : ℕ). numbers_among n (i - 1) ++ f j ∷ []) here

-- it isn't
pub numbers_unset : (n : Nack) (i : ℕ) → 1 ≤ i → is_set n.blp i ≡ false → numbers_among n (i + 1 - 1) ≡ numbers_among n (i - 1)
numbers_unset n i h e =
    let up : i + 1 - 1 ≡ suc (i - 1) = omega arith in
    let here : 1 + (i - 1) ≡ i = omega arith in
    let f : ℕ → ℕ = λ j. (n.pid + j) % 65536 in
    let more = filter_more (is_set n.blp) (i - 1) false (ap (is_set n.blp) here ∙ e) in
    ap (numbers_among n) up
    ∙ ap (λ (r : List ℕ). n.pid ∷ map f r) more
    ∙ ap (λ (r : List ℕ). n.pid ∷ r) (map-append f (filter (is_set n.blp) (range_with_len 1 (i - 1))) [])
    ∙ append-nil (numbers_among n (i - 1))

filter_step : (b : Bool) (r : List ℕ) (x n : ℕ) → length r ≤ n → length (cond b (x ∷ r) r) ≤ suc n
filter_step true r x n h = omega arith
filter_step false r x n h = omega arith

filter_few : (p : ℕ → Bool) (xs : List ℕ) → length (filter p xs) ≤ length xs
filter_few p [] = omega arith
filter_few p (x ∷ xs) = let rest = filter_few p xs in filter_step (p x) (filter p xs) x (length xs) rest

pub numbers_few : (n : Nack) (k : ℕ) → length (numbers_among n k) ≤ k + 1
numbers_few n k =
    let few = filter_few (is_set n.blp) (range_with_len 1 k) in
    omega (arith, length-map (filter (is_set n.blp) (range_with_len 1 k)) (λ (i : ℕ). (n.pid + i) % 65536), length-range_with_len 1 k)

-- the test of the bit at place i
pub bit_set : (n i : ℕ) → bit_and (n / 2 ^ (i - 1)) 1 ≡ 1 → is_set n i ≡ true
bit_set n i h = eq-eqb _ _ (sym (and_mask (n / 2 ^ (i - 1)) 1) ∙ h)

pub bit_unset : (n i : ℕ) → (bit_and (n / 2 ^ (i - 1)) 1 ≡ 1 → ⊥) → is_set n i ≡ false
bit_unset n i h = ne_eqb _ _ (λ e. h (and_mask (n / 2 ^ (i - 1)) 1 ∙ e))
