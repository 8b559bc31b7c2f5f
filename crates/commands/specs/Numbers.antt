-- What is said of the file in which a unit notes its numbers.
use Rattle.std.specs.Prelude.{◌≡◌, ◌⊎◌, ℕ, List, Option, None, Some, IsSomeAnd, codes}
use Rattle.std.specs.Io.KnownBytes.{Appends}
use Rattle.leg_numbers.specs.declared.file.NumbersFault.{NumbersFault}
use Rattle.leg_numbers.specs.declared.file.NumbersFault.TheVariants.{NoMemory, OtherSettings, Unreadable, Unwritable}

-- the line for a file that isn't used; want of memory has none
abbrev pub numbers_notice : NumbersFault → Option (List ℕ)
numbers_notice NoMemory = None
numbers_notice Unreadable = Some (codes "numbers: unreadable\n")
numbers_notice OtherSettings = Some (codes "numbers: other settings\n")
numbers_notice Unwritable = Some (codes "numbers: unwritable\n")

abbrev pub SaysUnused : NumbersFault → Option (List ℕ) → Option (List ℕ) → Type 0
SaysUnused fault old new = IsSomeAnd (numbers_notice fault) (Appends old new)

-- What the error output says of the file of `--numbers` before anything else: nothing without that option, and one line if the file isn't used.
pub record SaysOfNumbers (path : Option (List ℕ)) (old new : Option (List ℕ)) : Type 0 where
  pub unasked : path ≡ None → new ≡ old
  pub notice : (new ≡ old) ⊎ ((fault : NumbersFault) × SaysUnused fault old new)
