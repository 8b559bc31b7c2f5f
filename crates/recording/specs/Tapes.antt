-- What is written of a record, and when it ends.
use Rattle.std.specs.Prelude.{◌≡◌, ◌<◌, ◌≤◌, ◌⊎◌, ◌++◌, ◌+◌, ℕ, List, [], length, Option, None, Some, codes}
use Rattle.recording.specs.declared.tape.End.{End}
use Rattle.recording.specs.declared.tape.End.TheVariants.{Off, Limit, Failed, Slow, Memory}

-- what waits for its file, how many bytes were put, how many may be, and why the record has ended, if it has
pub record TapeState : Type 0 where
  pub waits : List ℕ
  pub written : ℕ
  pub limit : ℕ
  pub end : Option End

abbrev pub new_tape : ℕ → TapeState
new_tape limit = record { waits = []; written = 0; limit = limit; end = None }

-- nothing waits any more
abbrev pub taken : TapeState → TapeState
taken t = record t { waits = [] }

abbrev pub end_or : End → Option End → Option End
end_or why None = Some why
end_or why (Some end) = Some end

-- a record that has ended stays so
abbrev pub ended : End → TapeState → TapeState
ended why t = record t { end = end_or why t.end }

-- these lines wait after the others
abbrev pub with_lines : List ℕ → TapeState → TapeState
with_lines lines t = record t { waits = t.waits ++ lines; written = t.written + length lines }

-- Lines are put as a whole, as long as the record hasn't ended and has no more bytes than it may; else it ends, and it does so for
-- want of memory, too.
abbrev pub IsPutIf : Option End → TapeState → List ℕ → TapeState → Type 0
IsPutIf (Some end) old lines new = new ≡ old
IsPutIf None old lines new =
    ((old.limit < old.written + length lines) × (new ≡ ended Limit old))
    ⊎ ((old.written + length lines ≤ old.limit)
    × ((new ≡ with_lines lines old) ⊎ (new ≡ ended Memory old)))

abbrev pub IsPut : TapeState → List ℕ → TapeState → Type 0
IsPut old lines new = IsPutIf old.end old lines new

-- the same, or there was no memory to make the lines
abbrev pub IsMadeAndPut : TapeState → List ℕ → TapeState → Type 0
IsMadeAndPut old lines new = IsPut old lines new ⊎ (new ≡ ended Memory old)

abbrev pub end_name : End → List ℕ
end_name Off = codes "off"
end_name Limit = codes "limit"
end_name Failed = codes "failed"
end_name Slow = codes "slow"
end_name Memory = codes "memory"

-- what those who follow are told of a record that ended: where it went, and why
abbrev pub ended_line : List ℕ → End → List ℕ
ended_line place why =
    codes "record ended " ++ (place ++ (codes " " ++ (end_name why ++ codes "\n")))
