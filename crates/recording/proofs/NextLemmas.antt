-- What holds of each file that may be made holds of the one that is.
use Rattle.std.proofs.Common.{ℕ, Result, Ok, Err}
use Rattle.std.specs.Prelude.{IfOk}
use Rattle.recording.specs.NextRecord.{IsNextMade}
use Rattle.recording.specs.declared.faults.RecordFault.{RecordFault}

pub some_made : {T : Type 0} (P : ℕ → T → Type 0) (makes : ℕ → Result T RecordFault → Type 0) (made : Result T RecordFault)
    → ((k : ℕ) (r : Result T RecordFault) → makes k r → IfOk r (P k)) → IsNextMade makes made → IfOk made (λ t. (k : ℕ) × P k t)
some_made P makes (Ok t) each next = (next.number, each next.number (Ok t) next.here)
some_made P makes (Err e) each next = tt
