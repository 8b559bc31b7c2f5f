use Rattle.std.proofs.Common.{◌+◌, ◌≤◌, length}
use Rattle.bounding_set.proofs.EnvelopeLemmas.{IsNeededBeside}
use Rattle.bounding_set.proofs.beside.needed_before.Given as goal

abbrev pub invariant-loop-needed : goal.invariant-loop-needed
invariant-loop-needed l = record {
  is_needed : IsNeededBeside l.lines l.x l.needed;
  counted : l.fn.count ≤ l.count;
  each : l.fn.count + length l.lines ≤ l.count + l.needed;
  few : l.count + l.needed ≤ l.fn.count + length l.lines;
}

abbrev pub decreases-loop-needed : goal.decreases-loop-needed
decreases-loop-needed l = l.needed
