use Rattle.std.proofs.Common.{◌≡◌, ◌+◌, ◌*◌, ◌<◌, ◌≤◌, ◌++◌, length, take, drop}
use Rattle.seats.specs.Names.{renamed}
use Rattle.seats.specs.Places.{body_as, entries_as}
use Rattle.seats.proofs.renaming.rename_body.Given as goal

abbrev pub invariant-loop-left : goal.invariant-loop-left
invariant-loop-left l = record {
  fits : 0 < l.left → l.at + l.places.size * l.left ≤ length l.body;
  goes : take l.at l.body ++ entries_as (renamed l.places.by) l.places.size l.left (drop l.at l.body) ≡ body_as l.places l.fn.body;
}

abbrev pub decreases-loop-left : goal.decreases-loop-left
decreases-loop-left l = l.left
