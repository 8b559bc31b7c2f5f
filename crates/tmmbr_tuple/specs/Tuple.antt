-- What a tuple says (RFC 5104, section 4.2.1.1).
use Rattle.std.specs.Prelude.{ℕ, ◌+◌, ◌*◌, ◌^◌}
use Rattle.tmmbr_tuple.specs.declared.tuple.Tuple.{Tuple}

-- a tuple's rate in bits per second: mantissa * 2^exponent (RFC 5104, section 4.2.1.1)
unfoldable pub rate_of : Tuple → ℕ
rate_of t = t.mantissa * 2 ^ t.exp

-- the word on the wire: the exponent in 6 bits, the mantissa in 17, the overhead in 9, from the
-- top (RFC 5104, section 4.2.1.1)
abbrev pub word_of : Tuple → ℕ
word_of t = t.exp * 2 ^ 26 + t.mantissa * 2 ^ 9 + t.overhead
