-- Of whom samples are.
use Rattle.std.specs.Prelude.{ℕ, List, [], Option, None, Some, slice_get}
use Rattle.std.specs.String.{string_bytes}
use Rattle.stats.specs.declared.subjects.Subject.{Subject}

abbrev pub subject_labels : Option Subject → List ℕ
subject_labels None = []
subject_labels (Some s) = string_bytes s.labels

abbrev pub subject_clock : Option Subject → Option ℕ
subject_clock None = None
subject_clock (Some s) = s.clock_rate

-- the labels of the one with this number
abbrev pub labels_at : List Subject → ℕ → List ℕ
labels_at subjects number = subject_labels (slice_get subjects number)

-- its clock, in hertz, if it is known
abbrev pub clock_at : List Subject → ℕ → Option ℕ
clock_at subjects number = subject_clock (slice_get subjects number)
