use Rattle.std.proofs.Common.{◌≡◌, drop}
use Rattle.std.specs.Prelude.{flat_map}
use Rattle.std.specs.List.{enumerate_from}
use Rattle.settings.specs.Settings.{first_fault, leg_checks}
use Rattle.settings.proofs.checks.check_legs.Given as goal

abbrev pub invariant-loop-k : goal.invariant-loop-k
invariant-loop-k l = first_fault (flat_map (leg_checks l.parts) (enumerate_from 0 l.parts.legs.items))
    ≡ first_fault (flat_map (leg_checks l.parts) (enumerate_from l.k (drop l.k l.parts.legs.items)))
