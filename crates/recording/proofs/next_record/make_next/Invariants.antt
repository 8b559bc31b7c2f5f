use Rattle.std.proofs.Common.{ℕ, ◌<◌, Err}
use Rattle.recording.specs.declared.faults.RecordFault.TheVariants.{Exists}
use Rattle.recording.proofs.next_record.make_next.Given as goal

abbrev pub invariant-loop-number : goal.invariant-loop-number
invariant-loop-number g l = (k : ℕ) → k < l.number → goal.F-post g l.make k (Err Exists)
