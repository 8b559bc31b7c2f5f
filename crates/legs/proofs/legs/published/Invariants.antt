use Rattle.legs.specs.Planning.{ListsPlaces}
use Rattle.legs.proofs.legs.published.Given as goal

abbrev pub invariant-loop-publisher : goal.invariant-loop-publisher
invariant-loop-publisher l = ListsPlaces l.lists.items l.publisher l.legs
