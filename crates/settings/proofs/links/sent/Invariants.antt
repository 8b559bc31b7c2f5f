use Rattle.settings.specs.Places.{FindsLegs}
use Rattle.settings.proofs.links.sent.Given as goal

abbrev pub invariant-loop-subscriber : goal.invariant-loop-subscriber
invariant-loop-subscriber l = FindsLegs l.maps.items l.subscriber l.legs
