use Rattle.std.proofs.Common.{◌≡◌, drop}
use Rattle.settings.specs.Settings.{sources, are_distinct}
use Rattle.settings.proofs.checks.are_all_distinct.Given as goal

abbrev pub invariant-loop-place : goal.invariant-loop-place
invariant-loop-place l = are_distinct (sources l.parts) ≡ are_distinct (drop l.place (sources l.parts))
