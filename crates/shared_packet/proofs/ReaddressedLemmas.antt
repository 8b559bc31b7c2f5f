-- A packet under another source and sequence number, as it is written.
use Rattle.std.proofs.Common.{◌≡◌, ℕ, ◌+◌, ◌-◌, ◌≤◌, List, [], ◌∷◌, ◌++◌, length, take, drop, slice_index, refl, ap, ◌∙◌, arith, length-drop}
use Rattle.std.proofs.lemmas.List.{drop-drop, append-nil, take_rest, drop_all}
use borrow.Rule.Slice.PartMut.{put_mid}
use Rattle.byteorder.specs.Endian.{big_bytes}
use Rattle.shared_packet.specs.Readdressed.{readdressed_bytes}

-- a write of as many bytes from place n on
written_at : (n k : ℕ) (xs w bs : List ℕ) → length bs ≡ k → w ≡ bs ++ drop k (take (length xs - n) (drop n xs))
    → put_mid n (length xs - n) xs w ≡ take n xs ++ (bs ++ drop (n + k) xs)
written_at n k xs w bs size e =
    let none : drop (length xs - n) (drop n xs) ≡ [] = drop_all (length xs - n) (drop n xs) (omega (arith, length-drop n xs)) in
    let part : w ≡ bs ++ drop (n + k) xs = e ∙ ap (λ (l : List ℕ). bs ++ drop k l) (take_rest xs n) ∙ ap (λ (l : List ℕ). bs ++ l) (drop-drop k n xs) in
    rw (none, part, append-nil) refl

-- what twelve bytes or more are with both numbers written over them
twelve : (u s : ℕ) (d : List ℕ) → 12 ≤ length d
    → (length (readdressed_bytes u s d) ≡ length d)
    × (take 8 (take 2 d ++ (big_bytes 2 s ++ drop 4 d)) ++ (big_bytes 4 u ++ drop 12 (take 2 d ++ (big_bytes 2 s ++ drop 4 d))) ≡ readdressed_bytes u s d)
    × ((v n : ℕ) → readdressed_bytes v n (readdressed_bytes u s d) ≡ readdressed_bytes v n d)
    × (slice_index (readdressed_bytes u s d) 0 ≡ slice_index d 0)
    × (drop 12 (readdressed_bytes u s d) ≡ drop 12 d)
unfolding readdressed_bytes
twelve u s [] h = absurd (omega arith)
twelve u s (_ ∷ []) h = absurd (omega arith)
twelve u s (_ ∷ _ ∷ []) h = absurd (omega arith)
twelve u s (_ ∷ _ ∷ _ ∷ []) h = absurd (omega arith)
twelve u s (_ ∷ _ ∷ _ ∷ _ ∷ []) h = absurd (omega arith)
twelve u s (_ ∷ _ ∷ _ ∷ _ ∷ _ ∷ []) h = absurd (omega arith)
twelve u s (_ ∷ _ ∷ _ ∷ _ ∷ _ ∷ _ ∷ []) h = absurd (omega arith)
twelve u s (_ ∷ _ ∷ _ ∷ _ ∷ _ ∷ _ ∷ _ ∷ []) h = absurd (omega arith)
twelve u s (_ ∷ _ ∷ _ ∷ _ ∷ _ ∷ _ ∷ _ ∷ _ ∷ []) h = absurd (omega arith)
twelve u s (_ ∷ _ ∷ _ ∷ _ ∷ _ ∷ _ ∷ _ ∷ _ ∷ _ ∷ []) h = absurd (omega arith)
twelve u s (_ ∷ _ ∷ _ ∷ _ ∷ _ ∷ _ ∷ _ ∷ _ ∷ _ ∷ _ ∷ []) h = absurd (omega arith)
twelve u s (_ ∷ _ ∷ _ ∷ _ ∷ _ ∷ _ ∷ _ ∷ _ ∷ _ ∷ _ ∷ _ ∷ []) h = absurd (omega arith)
twelve u s (_ ∷ _ ∷ _ ∷ _ ∷ _ ∷ _ ∷ _ ∷ _ ∷ _ ∷ _ ∷ _ ∷ _ ∷ body) h = (refl, refl, λ v n. refl, refl, refl)

pub length-readdressed : (u s : ℕ) (d : List ℕ) → 12 ≤ length d → length (readdressed_bytes u s d) ≡ length d
length-readdressed u s d h = (twelve u s d h).0

-- what is written over both numbers doesn't hang on those that were written before
pub readdressed-again : (u s : ℕ) (d : List ℕ) → 12 ≤ length d
    → (v n : ℕ) → readdressed_bytes v n (readdressed_bytes u s d) ≡ readdressed_bytes v n d
readdressed-again u s d h = (twelve u s d h).2

-- the first byte stays, and all after the fixed header
pub first-readdressed : (u s : ℕ) (d : List ℕ) → 12 ≤ length d → slice_index (readdressed_bytes u s d) 0 ≡ slice_index d 0
first-readdressed u s d h = (twelve u s d h).3

pub behind-readdressed : (u s : ℕ) (d : List ℕ) → 12 ≤ length d → drop 12 (readdressed_bytes u s d) ≡ drop 12 d
behind-readdressed u s d h = (twelve u s d h).4

-- the sequence number is written over the old one, then the source
pub readdressed : (u s : ℕ) (d copy w v xs : List ℕ) → 12 ≤ length d → copy ≡ d
    → w ≡ big_bytes 2 s ++ drop 2 (take (length copy - 2) (drop 2 copy)) → xs ≡ put_mid 2 (length copy - 2) copy w
    → v ≡ big_bytes 4 u ++ drop 4 (take (length xs - 8) (drop 8 xs))
    → put_mid 8 (length xs - 8) xs v ≡ readdressed_bytes u s d
readdressed u s d copy w v xs h same e is f =
    let first = is ∙ written_at 2 2 copy w (big_bytes 2 s) refl e ∙ ap (λ (l : List ℕ). take 2 l ++ (big_bytes 2 s ++ drop 4 l)) same in
    written_at 8 4 xs v (big_bytes 4 u) refl f
    ∙ ap (λ (l : List ℕ). take 8 l ++ (big_bytes 4 u ++ drop 12 l)) first
    ∙ (twelve u s d h).1
