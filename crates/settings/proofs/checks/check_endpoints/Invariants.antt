use Rattle.std.proofs.Common.{◌≡◌, drop}
use Rattle.std.specs.Prelude.{flat_map}
use Rattle.std.specs.List.{enumerate_from}
use Rattle.settings.specs.Settings.{first_fault, endpoint_checks, additions_of}
use Rattle.settings.proofs.checks.check_endpoints.Given as goal

abbrev pub invariant-loop-k : goal.invariant-loop-k
invariant-loop-k l = first_fault (flat_map (endpoint_checks (additions_of l.extras)) (enumerate_from 0 l.parts.endpoints.items))
    ≡ first_fault (flat_map (endpoint_checks (additions_of l.extras)) (enumerate_from l.k (drop l.k l.parts.endpoints.items)))
