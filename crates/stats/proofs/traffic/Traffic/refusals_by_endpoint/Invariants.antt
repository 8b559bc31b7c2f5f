use Rattle.std.proofs.Common.{◌≡◌, length}
use Rattle.stats.proofs.traffic.Traffic.refusals_by_endpoint.Given as goal

abbrev pub invariant-loop-place : goal.invariant-loop-place
invariant-loop-place l = length l.all.items ≡ l.place
