use Rattle.std.proofs.Common.{◌≡◌, ◌≤◌}
use Rattle.cli.specs.Plan.{count_publishers}
use Rattle.cli.proofs.plan.count_publishers.Given as goal

abbrev pub invariant-loop-endpoint : goal.invariant-loop-endpoint
invariant-loop-endpoint l = (l.count ≡ count_publishers l.legs l.endpoint) × (l.count ≤ l.endpoint)
