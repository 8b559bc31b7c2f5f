use Rattle.std.proofs.Common.{◌≤◌, length}
use Rattle.stats.specs.Reports.{AreShown}
use Rattle.stats.proofs.traffic.Traffic.publisher_reports.Given as goal

abbrev pub invariant-loop-place : goal.invariant-loop-place
invariant-loop-place l = (length l.all.items ≤ l.place) × AreShown l.all.items l.moment
