use Rattle.std.proofs.Common.{◌≤◌, length}
use Rattle.stats.specs.Reports.{AreShown}
use Rattle.stats.proofs.traffic.Traffic.leg_reports.Given as goal

abbrev pub invariant-loop-number : goal.invariant-loop-number
invariant-loop-number l = (length l.all.items ≤ l.number) × AreShown l.all.items l.moment
