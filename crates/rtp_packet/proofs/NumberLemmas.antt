-- Numbers in two and in four bytes, the highest byte first.
use Rattle.std.proofs.Common.{◌≡◌, ℕ, ◌+◌, ◌*◌, ◌^◌, ◌<◌, ◌≤◌, List, [], ◌∷◌, ◌++◌, length, drop, get_or, refl, arith}
use Rattle.std.specs.Int.{byte_at}
use Rattle.byteorder.specs.Endian.{big_bytes, big_number}

high_of_two : (a b : ℕ) → a < 256 → b < 256 → byte_at 1 (a * 256 ^ 1 + (b * 256 ^ 0 + 0)) ≡ a
high_of_two a b ha hb = omega arith

low_of_two : (a b : ℕ) → a < 256 → b < 256 → byte_at 0 (a * 256 ^ 1 + (b * 256 ^ 0 + 0)) ≡ b
low_of_two a b ha hb = omega arith

-- two bytes are those of the number that they make
pub two_bytes : (xs : List ℕ) → 2 ≤ length xs → ((k : ℕ) → get_or xs k 0 < 256) → big_bytes 2 (big_number 2 xs) ++ drop 2 xs ≡ xs
two_bytes [] h bytes = absurd (omega arith)
two_bytes (a ∷ []) h bytes = absurd (omega arith)
two_bytes (a ∷ b ∷ xs) h bytes =
    let ha : a < 256 = bytes 0 in
    let hb : b < 256 = bytes 1 in
    rw (high_of_two a b ha hb, low_of_two a b ha hb) refl

-- four bytes are those of the number that they make
pub four_bytes : (xs : List ℕ) → 4 ≤ length xs → ((k : ℕ) → get_or xs k 0 < 256) → big_bytes 4 (big_number 4 xs) ++ drop 4 xs ≡ xs
four_bytes [] h bytes = absurd (omega arith)
four_bytes (a ∷ []) h bytes = absurd (omega arith)
four_bytes (a ∷ b ∷ []) h bytes = absurd (omega arith)
four_bytes (a ∷ b ∷ c ∷ []) h bytes = absurd (omega arith)
four_bytes (a ∷ b ∷ c ∷ d ∷ xs) h bytes =
    let ha : a < 256 = bytes 0 in
    let hb : b < 256 = bytes 1 in
    let hc : c < 256 = bytes 2 in
    let hd : d < 256 = bytes 3 in
    let x = a * 256 ^ 3 + (b * 256 ^ 2 + (c * 256 ^ 1 + (d * 256 ^ 0 + 0))) in
    let e3 : byte_at 3 x ≡ a = omega arith in
    let e2 : byte_at 2 x ≡ b = omega arith in
    let e1 : byte_at 1 x ≡ c = omega arith in
    let e0 : byte_at 0 x ≡ d = omega arith in
    rw (e3, e2, e1, e0) refl

-- a number below 2 ^ 16 is told by its two bytes
pub big_bytes-two_injective : (x y : ℕ) → x < 2 ^ 16 → y < 2 ^ 16 → big_bytes 2 x ≡ big_bytes 2 y → x ≡ y
big_bytes-two_injective x y hx hy e =
    let e1 : byte_at 1 x ≡ byte_at 1 y = cc in
    let e0 : byte_at 0 x ≡ byte_at 0 y = cc in
    omega arith

-- a number below 2 ^ 32 is told by its four bytes
pub big_bytes-four_injective : (x y : ℕ) → x < 2 ^ 32 → y < 2 ^ 32 → big_bytes 4 x ≡ big_bytes 4 y → x ≡ y
big_bytes-four_injective x y hx hy e =
    let e3 : byte_at 3 x ≡ byte_at 3 y = cc in
    let e2 : byte_at 2 x ≡ byte_at 2 y = cc in
    let e1 : byte_at 1 x ≡ byte_at 1 y = cc in
    let e0 : byte_at 0 x ≡ byte_at 0 y = cc in
    omega arith
