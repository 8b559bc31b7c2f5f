use Rattle.std.proofs.Common.{◌+◌, ◌-◌, ◌≤◌, length}
use Rattle.bounding_set.proofs.BesideLemmas.{IsNeededBehind}
use Rattle.bounding_set.proofs.beside.needed_behind.Given as goal

abbrev pub invariant-loop-first : goal.invariant-loop-first
invariant-loop-first l = record {
  is_needed : IsNeededBehind l.lines l.x l.first;
  counted : l.fn.count ≤ l.count;
  each : l.fn.count + l.first ≤ l.count;
  few : l.count ≤ l.fn.count + l.first;
}

abbrev pub decreases-loop-first : goal.decreases-loop-first
decreases-loop-first l = length l.lines - l.first
