-- The twelve bytes of the fixed header.
use Rattle.std.proofs.Common.{◌≡◌, ℕ, ◌+◌, ◌-◌, ◌^◌, ◌<◌, ◌≤◌, List, [], ◌∷◌, ◌++◌, length, take, drop, get_or, slice_index, refl, ap, ◌∙◌, arith, length-append, length-drop}
use Rattle.std.proofs.lemmas.List.{get_or-drop, drop-drop, append-nil}
use Rattle.std.proofs.lemmas.List.{take_rest, drop_all}
use borrow.Rule.Slice.PartMut.{put_mid}
use Rattle.byteorder.specs.Endian.{big_bytes, big_number}
use Rattle.rtp_packet.specs.Grammar.{fixed_bytes}
use Rattle.rtp_packet.proofs.NumberLemmas.{two_bytes, four_bytes, big_bytes-two_injective, big_bytes-four_injective}

pub length-fixed_bytes : (a b s t u : ℕ) → length (fixed_bytes a b s t u) ≡ 12
unfolding fixed_bytes
length-fixed_bytes a b s t u = refl

pub length-packet_bytes : (a b s t u : ℕ) (body : List ℕ) → length (fixed_bytes a b s t u ++ body) ≡ 12 + length body
length-packet_bytes a b s t u body = omega (arith, length-append (fixed_bytes a b s t u) body, length-fixed_bytes a b s t u)

pub first_of_fixed : (a b s t u : ℕ) (body : List ℕ) → slice_index (fixed_bytes a b s t u ++ body) 0 ≡ a
unfolding fixed_bytes
first_of_fixed a b s t u body = refl

pub drop-fixed_bytes : (a b s t u : ℕ) (body : List ℕ) → drop 12 (fixed_bytes a b s t u ++ body) ≡ body
unfolding fixed_bytes
drop-fixed_bytes a b s t u body = refl

after_two : (xs : List ℕ) → 2 ≤ length xs → get_or xs 0 0 ∷ get_or xs 1 0 ∷ drop 2 xs ≡ xs
after_two [] h = absurd (omega arith)
after_two (a ∷ []) h = absurd (omega arith)
after_two (a ∷ b ∷ xs) h = refl

-- twelve bytes or more begin with those of the numbers that they make
pub fixed_bytes-read : (xs : List ℕ) → 12 ≤ length xs → ((k : ℕ) → get_or xs k 0 < 256)
    → fixed_bytes (slice_index xs 0) (slice_index xs 1) (big_number 2 (drop 2 xs)) (big_number 4 (drop 4 xs)) (big_number 4 (drop 8 xs)) ++ drop 12 xs ≡ xs
unfolding fixed_bytes
fixed_bytes-read xs h bytes =
    let from_two = two_bytes (drop 2 xs) (omega (arith, length-drop 2 xs)) (λ k. rw get_or-drop (bytes (2 + k))) in
    let from_four = four_bytes (drop 4 xs) (omega (arith, length-drop 4 xs)) (λ k. rw get_or-drop (bytes (4 + k))) in
    let from_eight = four_bytes (drop 8 xs) (omega (arith, length-drop 8 xs)) (λ k. rw get_or-drop (bytes (8 + k))) in
    let two = rw drop-drop at from_two in
    let fours = rw drop-drop at from_four in
    let eight = rw drop-drop at from_eight in
    let front = after_two xs (omega arith) in
    cc

-- the numbers and what follows are told by the bytes
pub fixed_bytes-injective : (a b s t u a' b' s' t' u' : ℕ) (xs ys : List ℕ)
    → s < 2 ^ 16 → s' < 2 ^ 16 → t < 2 ^ 32 → t' < 2 ^ 32 → u < 2 ^ 32 → u' < 2 ^ 32
    → fixed_bytes a b s t u ++ xs ≡ fixed_bytes a' b' s' t' u' ++ ys
    → (a ≡ a') × (b ≡ b') × (s ≡ s') × (t ≡ t') × (u ≡ u') × (xs ≡ ys)
unfolding fixed_bytes
fixed_bytes-injective a b s t u a' b' s' t' u' xs ys hs hs' ht ht' hu hu' e =
    (cc, cc, big_bytes-two_injective s s' hs hs' (cc), big_bytes-four_injective t t' ht ht' (cc), big_bytes-four_injective u u' hu hu' (cc), cc)

-- a write of bytes from place n on
written_at : (n k : ℕ) (xs w bs : List ℕ) → length bs ≡ k → w ≡ bs ++ drop k (take (length xs - n) (drop n xs))
    → put_mid n (length xs - n) xs w ≡ take n xs ++ (bs ++ drop (n + k) xs)
written_at n k xs w bs size e =
    let none : drop (length xs - n) (drop n xs) ≡ [] = drop_all (length xs - n) (drop n xs) (omega (arith, length-drop n xs)) in
    let part : w ≡ bs ++ drop (n + k) xs = e ∙ ap (λ (l : List ℕ). bs ++ drop k l) (take_rest xs n) ∙ ap (λ (l : List ℕ). bs ++ l) (drop-drop k n xs) in
    rw (none, part, append-nil) refl

-- another sequence number is written over the old one
pub sequence_number_written : (a b s t u s' : ℕ) (rest xs w : List ℕ) → xs ≡ fixed_bytes a b s t u ++ rest
    → w ≡ big_bytes 2 s' ++ drop 2 (take (length xs - 2) (drop 2 xs))
    → put_mid 2 (length xs - 2) xs w ≡ fixed_bytes a b s' t u ++ rest
unfolding fixed_bytes
sequence_number_written a b s t u s' rest xs w h e =
    written_at 2 2 xs w (big_bytes 2 s') refl e ∙ ap (λ (l : List ℕ). take 2 l ++ (big_bytes 2 s' ++ drop 4 l)) h

-- another SSRC is written over the old one
pub ssrc_written : (a b s t u u' : ℕ) (rest xs w : List ℕ) → xs ≡ fixed_bytes a b s t u ++ rest
    → w ≡ big_bytes 4 u' ++ drop 4 (take (length xs - 8) (drop 8 xs))
    → put_mid 8 (length xs - 8) xs w ≡ fixed_bytes a b s t u' ++ rest
unfolding fixed_bytes
ssrc_written a b s t u u' rest xs w h e =
    written_at 8 4 xs w (big_bytes 4 u') refl e ∙ ap (λ (l : List ℕ). take 8 l ++ (big_bytes 4 u' ++ drop 12 l)) h
