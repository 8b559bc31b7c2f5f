use Rattle.std.proofs.Common.{◌≡◌, ◌++◌, take}
use Rattle.std.specs.List.{flat_map}
use Rattle.legs.specs.Planning.{plan_of}
use Rattle.legs.proofs.legs.plan_places.Given as goal

abbrev pub invariant-loop-place : goal.invariant-loop-place
invariant-loop-place l =
    l.plan ≡ l.initial.plan ++ flat_map (plan_of l.rows l.packet l.legs) (take l.place-index l.places)
