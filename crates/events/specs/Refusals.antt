-- The numbers of refusals.
use Rattle.std.specs.Prelude.{ℕ}
use Rattle.events.specs.declared.output.DeskRefusal.{DeskRefusal}
use Rattle.events.specs.declared.output.DeskRefusal.TheVariants.{NotPresent, AlreadyPresent, Full, HistoryFull}

-- the number of a desk's refusal
abbrev pub desk_number : DeskRefusal → ℕ
desk_number NotPresent = 1
desk_number AlreadyPresent = 2
desk_number Full = 3
desk_number HistoryFull = 4
