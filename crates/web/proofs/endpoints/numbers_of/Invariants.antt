use Rattle.std.proofs.Common.{◌≡◌, List, ℕ, Bor, take}
use Rattle.std.specs.Prelude.{flat_map}
use Rattle.web.specs.Endpoints.{line_numbers}
use Rattle.web.proofs.endpoints.numbers_of.Given as goal

abbrev pub invariant-loop-line : goal.invariant-loop-line
invariant-loop-line l =
    l.numbers.items ≡ flat_map (λ (x : Bor (List ℕ)). line_numbers x.now) (take l.line-index l.lines)
