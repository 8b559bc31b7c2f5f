-- What of a record is handed on to where it is written.
use Rattle.std.specs.Prelude.{◌≡◌, ◌⊎◌, ℕ, List}
use Rattle.recording.specs.declared.tape.End.TheVariants.{Failed, Slow}
use Rattle.recording.specs.Tapes.{IsMadeAndPut, TapeState, ended, taken}

-- What waits is handed on, or waits still; if it can't be written, or what writes is too slow, the record ends.
abbrev pub IsHandedOn : TapeState → TapeState → Type 0
IsHandedOn old new =
    (new ≡ old) ⊎ ((new ≡ taken old) ⊎ ((new ≡ ended Failed old) ⊎ (new ≡ ended Slow (taken old))))

-- Lines are put, and then what waits is handed on or not.
abbrev pub IsWritten : TapeState → List ℕ → TapeState → Type 0
IsWritten old lines new = (put : TapeState) × IsMadeAndPut old lines put × IsHandedOn put new
