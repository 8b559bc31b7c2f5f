use Rattle.std.proofs.Common.{◌≡◌, ◌++◌, drop}
use Rattle.std.specs.List.{enumerate_from}
use Rattle.legs.specs.Planning.{publisher_places}
use Rattle.legs.proofs.legs.places_by.Given as goal

abbrev pub invariant-loop-place : goal.invariant-loop-place
invariant-loop-place l =
    l.places.items ++ publisher_places l.publisher (enumerate_from l.place (drop l.place l.legs)) ≡ publisher_places l.publisher (enumerate_from 0 l.legs)
