-- The low bits of a byte.
use Rattle.std.proofs.Common.{◌≡◌, ◌%◌, ℕ, bit_and}
use Rattle.std.proofs.lemmas.Nat.{and_mask}

pub low_five : (n : ℕ) → bit_and n 31 ≡ n % 32
low_five n = and_mask n 5

pub low_one : (n : ℕ) → bit_and n 1 ≡ n % 2
low_one n = and_mask n 1
