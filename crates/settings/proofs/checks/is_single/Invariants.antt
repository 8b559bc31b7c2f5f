use Rattle.std.proofs.Common.{◌≡◌, ◌+◌, drop}
use Rattle.std.specs.Prelude.{◌==◌}
use Rattle.std.specs.List.{list_any}
use Rattle.settings.specs.Settings.{sources}
use Rattle.settings.proofs.checks.is_single.Given as goal

abbrev pub invariant-loop-other : goal.invariant-loop-other
invariant-loop-other l = list_any (λ y. y == l.source) (drop (l.place + 1) (sources l.parts))
    ≡ list_any (λ y. y == l.source) (drop l.other (sources l.parts))
