use Rattle.std.proofs.Common.{◌≡◌, List, ℕ, Bor, map, take}
use Rattle.std.specs.Prelude.{flat_map}
use Rattle.request_text.specs.CheckFile.{asked_of}
use Rattle.web.specs.Sets.{line_asks}
use Rattle.web.proofs.sets.requests_of.Given as goal

abbrev pub invariant-loop-line : goal.invariant-loop-line
invariant-loop-line l =
    map asked_of l.requests.items ≡ flat_map (λ (x : Bor (List ℕ)). line_asks x.now) (take l.line-index l.lines)
