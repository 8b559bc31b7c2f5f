use Rattle.std.proofs.Common.{◌≡◌, ◌++◌, take, drop, map}
use Rattle.policy.specs.JoinedPublishers.{ticked_in}
use Rattle.policy.proofs.joined_publishers.tick_all.Given as goal

abbrev pub invariant-loop-coming : goal.invariant-loop-coming
invariant-loop-coming l = map ticked_in l.initial.list ≡ take l.coming-index l.list ++ map ticked_in (drop l.coming-index l.list)
