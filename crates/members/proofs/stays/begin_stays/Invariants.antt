use Rattle.std.proofs.Common.{◌≡◌, ◌++◌, ◌+◌, ◌≤◌, take, drop, List}
use Rattle.std.specs.Prelude.{Option}
use Rattle.members.specs.declared.order.Order.{Order}
use Rattle.members.specs.Stays.{Tells, begins_with, started_legs, beginnings}
use Rattle.members.proofs.stays.begin_stays.Given as goal

abbrev pub invariant-loop-number : goal.invariant-loop-number
invariant-loop-number l = record {
  legs : started_legs (begins_with l.endpoints l.endpoint) l.initial.next l.initial.legs
      ≡ take l.number l.legs ++ started_legs (begins_with l.endpoints l.endpoint) l.next (drop l.number l.legs);
  orders : (last : Option (List Order))
      → Tells l.draft (beginnings (begins_with l.endpoints l.endpoint) l.next l.number (drop l.number l.legs)) last
      → Tells l.initial.draft (beginnings (begins_with l.endpoints l.endpoint) l.initial.next 0 l.initial.legs) last;
  within : l.next ≤ l.initial.next + l.number;
}
