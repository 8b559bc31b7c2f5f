-- The rows of a route table, and what changes make of them.
use Rattle.std.specs.Prelude.{ℕ, nat_lt, List, [], ◌∷◌, replicate, fold, slice_set, if◌then◌else◌}
use Rattle.members.specs.declared.order.Order.{Order}
use Rattle.members.specs.declared.order.Order.TheVariants.{Arrive, Depart, Route}
use Rattle.members.specs.declared.order.Row.{Row}
use Rattle.members.specs.declared.order.Change.{Change}
use Rattle.members.specs.Stays.{opening_row}

abbrev pub opening_rows : ℕ → List Row
opening_rows legs = replicate legs opening_row

-- the rows once the change was done
abbrev pub row_changed : List Row → Change → List Row
row_changed rows c = slice_set rows c.leg c.row

-- the rows of so many legs after these changes, from the opening rows on (RFC 7667, section 3.7)
abbrev pub rows_after : ℕ → List Change → List Row
rows_after legs changes = fold row_changed (opening_rows legs) changes

-- what an order changes in a table of so many legs (RFC 7667, section 3.7)
abbrev pub changes_by : ℕ → Order → List Change
changes_by legs (Arrive leg stay) = []
changes_by legs (Depart leg stay) = []
changes_by legs (Route leg stay turn on) =
    if nat_lt leg legs
    then record { leg = leg; row = record { stay = stay; turn = turn; on = on } } ∷ [] else []
