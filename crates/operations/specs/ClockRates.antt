-- The clock of what an endpoint publishes, by what the file says of its encodings (RFC 8866, section 6.6).
use Rattle.std.specs.Prelude.{ℕ, ◌==◌, ◌^◌, List, [], ◌∷◌, Option, None}
use Rattle.std.specs.Global.{Global}
use Rattle.std.specs.List.{after_first, before_first}
use Rattle.std.specs.String.{string_bytes}
use Rattle.std.specs.declared.string.String.{String}
use Rattle.request_text.specs.Words.{number_under}

-- the number behind the first slash of an encoding, and before the next one, in hertz
abbrev pub clock_rate : List ℕ → Option ℕ
clock_rate encoding =
    number_under (2 ^ 32) (before_first (λ b. b == 47) (after_first (λ b. b == 47) encoding))

-- the clock of the first encoding, if there is one that says it
abbrev pub first_clock : List (String Global) → Option ℕ
first_clock [] = None
first_clock (first ∷ others) = clock_rate (string_bytes first)
