-- With which numbers legs begin after the next start, and the file that has them.
use Rattle.std.specs.Prelude.{◌≡◌, ◌==◌, ◌⊎◌, ◌++◌, ◌&&◌, ℕ, ◌+◌, ◌*◌, ◌/◌, ◌%◌, ◌^◌, ◌<◌, max, min, Bool, List, [], ◌∷◌, All, Result, Ok, Err, MatchResult, codes, drop, flat_map, length, take, if◌then◌else◌}
use Rattle.std.specs.Global.{Vec}
use Rattle.std.specs.Str.{bytes_eq}
use Rattle.byteorder.specs.Endian.{big_bytes, big_number}
use Rattle.leg_numbers.specs.declared.gap.TheConstants.{LEAST_GAP, MOST_GAP}
use Rattle.leg_numbers.specs.declared.file.NumbersFault.{NumbersFault}
use Rattle.leg_numbers.specs.declared.file.NumbersFault.TheVariants.{NoMemory, OtherSettings, Unreadable}

-- of so many numbers that were given since the note before twice as many are left out, but for the bounds
abbrev pub gap_after : ℕ → ℕ
gap_after given = min MOST_GAP (max LEAST_GAP (2 * given))

-- the number with which a leg begins after the next start (RFC 3550, section 5.1: modulo 2^16)
abbrev pub first_after : ℕ → ℕ → ℕ
first_after next given = (next + gap_after given) % 2 ^ 16

-- ---- the file

-- its first line
abbrev pub first_line : List ℕ
first_line = codes "sfu numbers 1\n"

-- the first line, the SHA-256 of the unit's settings, and by the legs' own numbers with which each begins, in two bytes
abbrev pub numbers_file : List ℕ → List ℕ → List ℕ
numbers_file digest numbers = first_line ++ (digest ++ flat_map (big_bytes 2) numbers)

-- ---- what is read

abbrev pub begins_with : List ℕ → List ℕ → Bool
begins_with front bytes = bytes_eq (take (length front) bytes) front

-- the numbers that bytes are, two bytes each
abbrev pub numbers_in : List ℕ → List ℕ
numbers_in (a ∷ (b ∷ rest)) = big_number 2 (a ∷ (b ∷ [])) ∷ numbers_in rest
numbers_in _ = []

-- one for each leg
abbrev pub read_rows : ℕ → List ℕ → Result (List ℕ) NumbersFault
read_rows legs rows =
    if (length rows % 2 == 0) && (length rows / 2 == legs) then Ok (numbers_in rows)
    else Err Unreadable

-- behind these settings
abbrev pub read_settings : List ℕ → ℕ → List ℕ → Result (List ℕ) NumbersFault
read_settings digest legs rest =
    if begins_with digest rest then read_rows legs (drop (length digest) rest) else Err OtherSettings

-- behind the first line
abbrev pub read_file : List ℕ → ℕ → List ℕ → Result (List ℕ) NumbersFault
read_file digest legs file =
    if begins_with first_line file then read_settings digest legs (drop (length first_line) file)
    else Err Unreadable

-- this is read, unless memory is wanting
abbrev pub Reads : Result (List ℕ) NumbersFault → Result (Vec ℕ) NumbersFault → Type 0
Reads wanted read =
    MatchResult read (λ v. wanted ≡ Ok v.items) (λ fault. (fault ≡ NoMemory) ⊎ (wanted ≡ Err fault))

-- each is a sequence number
abbrev pub AreNumbers : List ℕ → Type 0
AreNumbers numbers = All (λ n. n < 2 ^ 16) numbers
