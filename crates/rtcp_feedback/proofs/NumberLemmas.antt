-- Numbers in two and in four bytes, the highest byte first.
use Rattle.std.proofs.Common.{◌≡◌, ℕ, ◌+◌, ◌*◌, ◌^◌, ◌<◌, List, [], ◌∷◌, ◌++◌, get_or, refl, arith}
use Rattle.std.specs.Int.{byte_at}
use Rattle.byteorder.specs.Endian.{big_bytes, big_number}
use Rattle.byteorder.specs.Numbers.{big_number-reads_back}

-- each is a byte
abbrev pub IsBytes : List ℕ → Type 0
IsBytes xs = (k : ℕ) → get_or xs k 0 < 256

-- two bytes are those of the number that they make
pub two_bytes : (a b : ℕ) → a < 256 → b < 256 → big_bytes 2 (big_number 2 (a ∷ (b ∷ []))) ≡ a ∷ (b ∷ [])
two_bytes a b ha hb =
    let x = a * 256 ^ 1 + (b * 256 ^ 0 + 0) in
    let e1 : byte_at 1 x ≡ a = omega arith in
    let e0 : byte_at 0 x ≡ b = omega arith in
    rw (e1, e0) refl

pub two_fit : (a b : ℕ) → a < 256 → b < 256 → big_number 2 (a ∷ (b ∷ [])) < 2 ^ 16
two_fit a b ha hb = omega arith

-- four bytes are those of the number that they make
pub four_bytes : (a b c d : ℕ) → a < 256 → b < 256 → c < 256 → d < 256
    → big_bytes 4 (big_number 4 (a ∷ (b ∷ (c ∷ (d ∷ []))))) ≡ a ∷ (b ∷ (c ∷ (d ∷ [])))
four_bytes a b c d ha hb hc hd =
    let x = a * 256 ^ 3 + (b * 256 ^ 2 + (c * 256 ^ 1 + (d * 256 ^ 0 + 0))) in
    let e3 : byte_at 3 x ≡ a = omega arith in
    let e2 : byte_at 2 x ≡ b = omega arith in
    let e1 : byte_at 1 x ≡ c = omega arith in
    let e0 : byte_at 0 x ≡ d = omega arith in
    rw (e3, e2, e1, e0) refl

pub four_fit : (a b c d : ℕ) → a < 256 → b < 256 → c < 256 → d < 256 → big_number 4 (a ∷ (b ∷ (c ∷ (d ∷ [])))) < 2 ^ 32
four_fit a b c d ha hb hc hd = omega arith

-- a number is the one in its bytes
pub two_again : (x : ℕ) (rest : List ℕ) → x < 2 ^ 16 → big_number 2 (big_bytes 2 x ++ rest) ≡ x
two_again x rest h = big_number-reads_back 2 x rest (omega arith)

pub four_again : (x : ℕ) (rest : List ℕ) → x < 2 ^ 32 → big_number 4 (big_bytes 4 x ++ rest) ≡ x
four_again x rest h = big_number-reads_back 4 x rest (omega arith)
