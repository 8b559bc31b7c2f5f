-- Numbers of two bytes, written and read, and the file that has them.
use Rattle.std.proofs.Common.{◌≡◌, ◌∙◌, ℕ, suc, ◌*◌, ◌/◌, ◌%◌, ◌^◌, ◌<◌, List, [], ◌∷◌, ◌++◌, length, take, drop, Ok, Err, Result, true, refl, ap, ap₂, arith}
use Rattle.std.specs.Prelude.{◌==◌}
use Rattle.std.specs.List.{flat_map, IsSplitAt}
use Rattle.std.proofs.Math.Seq.{drop-append_seam, take-append_seam}
use Rattle.std.proofs.lemmas.Bool.{cond-true}
use Rattle.std.proofs.lemmas.Bool.Decides.{Decides-eqb}
use Rattle.std.proofs.lemmas.Slice.Eq.{bytes_eq-Decides}
use Rattle.byteorder.specs.Endian.{big_bytes, big_number}
use Rattle.byteorder.specs.Numbers.{big_number-reads_back}
use Rattle.leg_numbers.specs.declared.file.NumbersFault.{NumbersFault}
use Rattle.leg_numbers.specs.declared.file.NumbersFault.TheVariants.{Unreadable}
use Rattle.leg_numbers.specs.Numbers.{AreNumbers, begins_with, first_line, numbers_file, numbers_in, read_file, read_rows, read_settings}

all_tail : (x : ℕ) (xs : List ℕ) → AreNumbers (x ∷ xs) → AreNumbers xs
all_tail x xs h = λ k d lt. h (suc k) d (omega arith)

pub numbers_next : (xs front back : List ℕ) (n : ℕ) → IsSplitAt xs 2 front back → n ≡ big_number 2 front → numbers_in xs ≡ n ∷ numbers_in back
numbers_next [] front back n s is = absurd (omega arith)
numbers_next (a ∷ []) front back n s is = absurd (omega arith)
numbers_next (a ∷ (b ∷ xs)) front back n s is =
    let front_is : front ≡ a ∷ (b ∷ []) = s.1 in
    let back_is : back ≡ xs = s.2 in
    let number : n ≡ big_number 2 (a ∷ (b ∷ [])) = is ∙ ap (big_number 2) front_is in
    rw (number, back_is) refl

pub numbers_end : (xs : List ℕ) → length xs < 2 → numbers_in xs ≡ []
numbers_end [] h = refl
numbers_end (a ∷ []) h = refl
numbers_end (a ∷ (b ∷ xs)) h = absurd (omega arith)

numbers_again : (ns : List ℕ) → AreNumbers ns → numbers_in (flat_map (big_bytes 2) ns) ≡ ns
numbers_again [] h = refl
numbers_again (n ∷ ns) h =
    let here : n < 2 ^ 16 = h 0 n (omega arith) in
    let number : big_number 2 (big_bytes 2 n ++ []) ≡ n = big_number-reads_back 2 n [] (omega arith) in
    ap₂ (λ (m : ℕ) (rest : List ℕ). m ∷ rest) number (numbers_again ns (all_tail n ns h))

length-numbers : (ns : List ℕ) → length (flat_map (big_bytes 2) ns) ≡ 2 * length ns
length-numbers [] = refl
length-numbers (n ∷ ns) = let rest = length-numbers ns in omega arith

-- ---- the file

begins_itself : (front rest : List ℕ) → begins_with front (front ++ rest) ≡ true
begins_itself front rest = (bytes_eq-Decides (take (length front) (front ++ rest)) front).1 (take-append_seam front rest)

rows_again : (ns : List ℕ) → AreNumbers ns → read_rows (length ns) (flat_map (big_bytes 2) ns) ≡ Ok ns
rows_again ns are =
    let rows : List ℕ = flat_map (big_bytes 2) ns in
    let long : length rows ≡ 2 * length ns = length-numbers ns in
    let whole : (length rows % 2 == 0) ≡ true = (Decides-eqb (length rows % 2) 0).1 (omega (arith, long)) in
    let all : (length rows / 2 == length ns) ≡ true = (Decides-eqb (length rows / 2) (length ns)).1 (omega (arith, long)) in
    rw (whole, all) (ap Ok (numbers_again ns are))

settings_again : (digest ns : List ℕ) → AreNumbers ns → read_settings digest (length ns) (digest ++ flat_map (big_bytes 2) ns) ≡ Ok ns
settings_again digest ns are =
    let rows : List ℕ = flat_map (big_bytes 2) ns in
    cond-true (begins_with digest (digest ++ rows)) _ _ (begins_itself digest rows)
    ∙ ap (read_rows (length ns)) (drop-append_seam digest rows) ∙ rows_again ns are

pub file_again : (digest ns : List ℕ) → AreNumbers ns → read_file digest (length ns) (numbers_file digest ns) ≡ Ok ns
file_again digest ns are =
    let rest : List ℕ = digest ++ flat_map (big_bytes 2) ns in
    let read : Result (List ℕ) NumbersFault = read_settings digest (length ns) (drop (length first_line) (first_line ++ rest)) in
    cond-true (begins_with first_line (first_line ++ rest)) read (Err Unreadable) (begins_itself first_line rest)
    ∙ ap (read_settings digest (length ns)) (drop-append_seam first_line rest) ∙ settings_again digest ns are
