-- Entries that are renamed one after the other.
use Rattle.std.proofs.Common.{◌≡◌, ◌∙◌, ℕ, zero, suc, ◌+◌, ◌-◌, ◌*◌, ◌<◌, ◌≤◌, List, ◌++◌, length, take, drop, refl, sym, ap, ap₂, subst, arith, length-append, length-drop, append_assoc}
use Rattle.std.proofs.lemmas.List.{take-append-drop, length-take-le, drop-drop}
use Rattle.std.proofs.lemmas.Slice.{take-put_mid, drop-put_mid}
use borrow.Rule.Slice.PartMut.{put_mid}
use Rattle.seats.specs.Exchange.{Fits}
use Rattle.seats.specs.Names.{renamed}
use Rattle.seats.specs.Places.{body_as, entries_as, word_as}
use Rattle.seats.specs.declared.places.Places.{Places}

-- ---- how long they are

pub length-word : (f : ℕ → ℕ) (bytes : List ℕ) → 4 ≤ length bytes → length (word_as f bytes) ≡ length bytes
length-word f bytes long = let behind = length-drop 4 bytes in omega arith

pub length-entries : (f : ℕ → ℕ) (size n : ℕ) (bytes : List ℕ) → 4 ≤ size → size * n ≤ length bytes → length (entries_as f size n bytes) ≡ length bytes
length-entries f size zero bytes long fits = refl
length-entries f size (suc n) bytes long fits =
    let within : size + size * n ≤ length bytes = omega arith in
    let front : length (take size bytes) ≡ size = length-take-le size bytes (omega arith) in
    let word = length-word f (take size bytes) (omega arith) in
    let behind = length-drop size bytes in
    let others = length-entries f size n (drop size bytes) long (omega arith) in
    let all = length-append (word_as f (take size bytes)) (entries_as f size n (drop size bytes)) in
    omega arith

length-from : (p : Places) (n : ℕ) (body : List ℕ) → 4 ≤ p.size → (0 < n → p.from + p.size * n ≤ length body)
    → length (take p.from body ++ entries_as (renamed p.by) p.size n (drop p.from body)) ≡ length body
length-from p zero body long fits = ap length (take-append-drop p.from body)
length-from p (suc n) body long fits =
    let within : p.from + p.size * suc n ≤ length body = fits (omega arith) in
    let front : length (take p.from body) ≡ p.from = length-take-le p.from body (omega arith) in
    let behind = length-drop p.from body in
    let others = length-entries (renamed p.by) p.size (suc n) (drop p.from body) long (omega arith) in
    let all = length-append (take p.from body) (entries_as (renamed p.by) p.size (suc n) (drop p.from body)) in
    omega arith

pub length-body : (p : Places) (body : List ℕ) → 4 ≤ p.size → Fits p (length body) → length (body_as p body) ≡ length body
length-body p body long fits = length-from p p.count body long fits

-- ---- one entry more

pub entry_more : (f : ℕ → ℕ) (size at left k : ℕ) (xs w : List ℕ) → 4 ≤ size → k ≡ size → 0 < left → at + size ≤ length xs
    → w ≡ word_as f (take k (drop at xs))
    → take (at + size) (put_mid at k xs w) ++ entries_as f size (left - 1) (drop (at + size) (put_mid at k xs w))
    ≡ take at xs ++ entries_as f size left (drop at xs)
entry_more f size at zero k xs w long is some fits e = absurd (omega arith)
entry_more f size at (suc left) k xs w long is some fits e =
    let behind_at = length-drop at xs in
    let one : suc left - 1 ≡ left = omega arith in
    let part : length (take k (drop at xs)) ≡ k = length-take-le k (drop at xs) (omega arith) in
    let written : length w ≡ size = ap length e ∙ length-word f (take k (drop at xs)) (omega arith) ∙ part ∙ is in
    let front : take (at + size) (put_mid at k xs w) ≡ take at xs ++ w = take-put_mid at k xs w (at + size) (omega arith) (omega arith) in
    let behind : drop (at + size) (put_mid at k xs w) ≡ drop size (drop at xs) =
    drop-put_mid at k xs w (at + size) (omega arith) (omega arith) (written ∙ sym is) ∙ sym (drop-drop size at xs) in
    ap (λ (l : List ℕ). l ++ entries_as f size (suc left - 1) (drop (at + size) (put_mid at k xs w))) front
    ∙ ap₂ (λ (n : ℕ) (l : List ℕ). (take at xs ++ w) ++ entries_as f size n l) one behind
    ∙ append_assoc (take at xs) w (entries_as f size left (drop size (drop at xs)))
    ∙ ap (λ (l : List ℕ). take at xs ++ (l ++ entries_as f size left (drop size (drop at xs)))) (e ∙ ap (λ (n : ℕ). word_as f (take n (drop at xs))) is)

-- there is still room for those that are left
pub fits_on : (at size left n : ℕ) → (0 < left → at + size * left ≤ n) → 0 < left → 0 < left - 1 → at + size + size * (left - 1) ≤ n
fits_on at size zero n fits some more = absurd (omega arith)
fits_on at size (suc left) n fits some more =
    let one : suc left - 1 ≡ left = omega arith in
    let all : at + size * suc left ≤ n = fits some in
    let here : at + size + size * left ≤ n = omega arith in
    subst (λ (m : ℕ). at + size + size * m ≤ n) (sym one) here

pub fits_here : (at size left n : ℕ) → (0 < left → at + size * left ≤ n) → 0 < left → at + size ≤ n
fits_here at size zero n fits some = absurd (omega arith)
fits_here at size (suc left) n fits some = let all : at + size * suc left ≤ n = fits some in omega arith

-- none is left
pub entries_end : (f : ℕ → ℕ) (size at left : ℕ) (xs all : List ℕ) → left ≤ 0 → take at xs ++ entries_as f size left (drop at xs) ≡ all → xs ≡ all
entries_end f size at zero xs all none e = sym (take-append-drop at xs) ∙ e
entries_end f size at (suc left) xs all none e = absurd (omega arith)
