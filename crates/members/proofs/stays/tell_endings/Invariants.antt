use Rattle.std.proofs.Common.{drop, List}
use Rattle.std.specs.Prelude.{flat_map, Option}
use Rattle.std.specs.List.{enumerate_from}
use Rattle.members.specs.declared.order.Order.{Order}
use Rattle.members.specs.Stays.{Tells, ending_of, endings}
use Rattle.members.proofs.stays.tell_endings.Given as goal

abbrev pub invariant-loop-number : goal.invariant-loop-number
invariant-loop-number l = (last : Option (List Order))
    → Tells l.draft (flat_map (ending_of l.endpoint) (enumerate_from l.number (drop l.number l.legs))) last
    → Tells l.initial.draft (endings l.endpoint l.legs) last
