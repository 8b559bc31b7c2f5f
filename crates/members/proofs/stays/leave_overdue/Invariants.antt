use Rattle.std.proofs.Common.{◌≡◌}
use Rattle.members.specs.Stays.{without_orders, Tells, after_overdue}
use Rattle.members.proofs.stays.leave_overdue.Given as goal

abbrev pub invariant-loop-endpoint : goal.invariant-loop-endpoint
invariant-loop-endpoint l = record {
  endpoints : l.endpoints ≡ (after_overdue l.timeout l.moment (without_orders l.initial.endpoints l.initial.legs) l.endpoint).endpoints;
  legs : l.legs ≡ (after_overdue l.timeout l.moment (without_orders l.initial.endpoints l.initial.legs) l.endpoint).legs;
  orders : Tells l.initial.draft (after_overdue l.timeout l.moment (without_orders l.initial.endpoints l.initial.legs) l.endpoint).orders l.draft;
}
