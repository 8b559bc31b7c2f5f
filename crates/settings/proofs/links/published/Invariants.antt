use Rattle.settings.specs.Places.{ListsLegs}
use Rattle.settings.proofs.links.published.Given as goal

abbrev pub invariant-loop-publisher : goal.invariant-loop-publisher
invariant-loop-publisher l = ListsLegs l.lists.items l.publisher l.legs
