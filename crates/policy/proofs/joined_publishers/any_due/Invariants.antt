use Rattle.std.proofs.Common.{◌≡◌, drop}
use Rattle.std.specs.List.{list_any}
use Rattle.policy.specs.JoinedPublishers.{is_due}
use Rattle.policy.proofs.joined_publishers.any_due.Given as goal

abbrev pub invariant-loop-coming : goal.invariant-loop-coming
invariant-loop-coming l = list_any is_due (drop l.coming-index l.list) ≡ list_any is_due l.list
