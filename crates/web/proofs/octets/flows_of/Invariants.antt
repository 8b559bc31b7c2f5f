use Rattle.std.proofs.Common.{◌≡◌, List, ℕ, Bor, take}
use Rattle.std.specs.Prelude.{flat_map}
use Rattle.web.specs.Octets.{line_flows}
use Rattle.web.proofs.octets.flows_of.Given as goal

abbrev pub invariant-loop-line : goal.invariant-loop-line
invariant-loop-line l =
    l.flows.items ≡ flat_map (λ (x : Bor (List ℕ)). line_flows x.now) (take l.line-index l.lines)
