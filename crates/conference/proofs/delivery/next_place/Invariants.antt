use Rattle.std.proofs.Common.{◌≡◌, ◌≤◌, ◌-◌, length, drop}
use Rattle.ports.specs.Outside.{datagrams_of}
use Rattle.conference.proofs.delivery.next_place.Given as goal

abbrev pub invariant-loop-at : goal.invariant-loop-at
invariant-loop-at l = record {
  within : l.at ≤ length l.fn.outs;
  same : datagrams_of (drop l.at l.fn.outs) ≡ datagrams_of (drop l.fn.from l.fn.outs);
}

abbrev pub decreases-loop-at : goal.decreases-loop-at
decreases-loop-at l = length l.fn.outs - l.at
