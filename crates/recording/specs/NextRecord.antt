-- Which file a record goes to where files of earlier ones may stand.
use Rattle.std.specs.Prelude.{◌≡◌, ◌<◌, ◌==◌, ◌++◌, ℕ, List, Result, Err, codes, if◌then◌else◌}
use Rattle.std.specs.Fmt.{decimal}
use Rattle.recording.specs.declared.faults.RecordFault.{RecordFault}
use Rattle.recording.specs.declared.faults.RecordFault.TheVariants.{Exists}
use Rattle.recording.specs.declared.next_record.TheConstants.{MAX_RECORD}

-- the path of a record's file by its number: as it was asked for, or with a number from 1 on behind it
abbrev pub record_path : List ℕ → ℕ → List ℕ
record_path path number = if number == 0 then path else path ++ (codes "." ++ decimal number)

-- What came of making the file of the least number that isn't there: making each one before it says that it is there. `makes` is what making
-- the file of a number may come to.
pub record IsNextMade {T : Type 0} (makes : ℕ → Result T RecordFault → Type 0) (made : Result T RecordFault)
    : Type 0 where
  pub number : ℕ
  pub there : (k : ℕ) → k < number → makes k (Err Exists)
  pub here : makes number made
  -- that it is there, too, is said of the last one alone
  pub last : made ≡ Err Exists → number ≡ MAX_RECORD
