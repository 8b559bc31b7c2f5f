use Rattle.std.proofs.Common.{◌≡◌, drop}
use Rattle.policy.specs.JoinedPublishers.{first_due}
use Rattle.policy.proofs.joined_publishers.first_due.Given as goal

abbrev pub invariant-loop-publisher : goal.invariant-loop-publisher
invariant-loop-publisher l = first_due l.publisher (drop l.publisher l.list) ≡ first_due 0 l.list
