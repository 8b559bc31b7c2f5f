-- The digits of a byte, and how many digits there are.
use Rattle.std.proofs.Common.{◌≡◌, ℕ, zero, suc, ◌+◌, ◌*◌, ◌/◌, ◌%◌, ◌<◌, ◌++◌, ◌&&◌, Bool, true, false, List, length, slice_index, bit_and, nat_eq, refl, subst, sym, inl, inr, arith}
use Rattle.std.proofs.lemmas.Bool.{eqb-true}
use Rattle.std.proofs.lemmas.Bool.Decides.{eqb_tells}
use Rattle.std.proofs.lemmas.List.{length-append}
use Rattle.hex.specs.Hex.{encode_lower, lower_digits}
use Rattle.hex.proofs.HexLemmas.{length-encode_with}
use Rattle.recording.specs.Lines.{follow_line}

-- what a datagram's line and the next one have, by what stands before its digits
pub line_length : (head bytes : List ℕ)
    → length (head ++ (encode_lower bytes ++ follow_line)) ≡ length head + 2 * length bytes + 8
line_length head bytes =
    let digits = length-encode_with lower_digits bytes in
    let outer = length-append head (encode_lower bytes ++ follow_line) in
    let inner = length-append (encode_lower bytes) follow_line in
    omega (arith, digits, outer, inner)

and_first : (a b : Bool) → (a && b) ≡ true → a ≡ true
and_first true b both = refl
and_first false b both = both

and_second : (a b : Bool) → (a && b) ≡ true → b ≡ true
and_second true b both = both
and_second false b both = cc

-- whether a test holds of each number below n
below : (ℕ → Bool) → ℕ → Bool
below p zero = true
below p (suc n) = p n && below p n

below-at : (p : ℕ → Bool) (n k : ℕ) → below p n ≡ true → k < n → p k ≡ true
unfolding below
below-at p zero k all less = absurd (omega (arith, less))
below-at p (suc n) k all less =
    elim (eqb_tells k n) [
      | inl same ↦ subst (λ (j : ℕ). p j ≡ true) (sym same.1) (and_first (p n) (below p n) all)
      | inr other ↦ below-at p n k (and_second (p n) (below p n) all) (omega (arith, less, other.1))
    ]

-- what is computed for a byte, and its two digits
computed : ℕ → ℕ
computed b = b / 16 + 256 * (b % 16) + 12336 + 39 * bit_and ((b / 16 + 256 * (b % 16) + 1542) / 16) 257

spelled : ℕ → ℕ
spelled b = slice_index lower_digits (b / 16) + 256 * slice_index lower_digits (b % 16)

is_spelled : ℕ → Bool
is_spelled b = nat_eq (computed b) (spelled b)

all_are_spelled : below is_spelled 256 ≡ true
unfolding below is_spelled computed spelled
all_are_spelled = refl

pub two_digits : (b : ℕ) → b < 256
    → b / 16 + 256 * (b % 16) + 12336 + 39 * bit_and ((b / 16 + 256 * (b % 16) + 1542) / 16) 257
    ≡ slice_index lower_digits (b / 16) + 256 * slice_index lower_digits (b % 16)
unfolding is_spelled computed spelled
two_digits b byte = eqb-true (computed b) (spelled b) (below-at is_spelled 256 b all_are_spelled byte)

has_high : ℕ → Bool
has_high b = nat_eq (bit_and (spelled b) 255) (slice_index lower_digits (b / 16))

has_low : ℕ → Bool
has_low b = nat_eq (spelled b / 256) (slice_index lower_digits (b % 16))

all_have_high : below has_high 256 ≡ true
unfolding below has_high spelled
all_have_high = refl

all_have_low : below has_low 256 ≡ true
unfolding below has_low spelled
all_have_low = refl

pub high_digit : (b pair : ℕ) → b < 256
    → pair ≡ slice_index lower_digits (b / 16) + 256 * slice_index lower_digits (b % 16)
    → bit_and pair 255 ≡ slice_index lower_digits (b / 16)
unfolding has_high spelled
high_digit b pair byte is =
    subst (λ (n : ℕ). bit_and n 255 ≡ slice_index lower_digits (b / 16)) (sym is)
    (eqb-true _ _ (below-at has_high 256 b all_have_high byte))

pub low_digit : (b pair : ℕ) → b < 256
    → pair ≡ slice_index lower_digits (b / 16) + 256 * slice_index lower_digits (b % 16)
    → pair / 256 ≡ slice_index lower_digits (b % 16)
unfolding has_low spelled
low_digit b pair byte is =
    subst (λ (n : ℕ). n / 256 ≡ slice_index lower_digits (b % 16)) (sym is)
    (eqb-true _ _ (below-at has_low 256 b all_have_low byte))
