use Rattle.std.proofs.Common.{◌≡◌, List, ℕ, Bor, take}
use Rattle.std.specs.Prelude.{flat_map}
use Rattle.web.specs.Sets.{line_media}
use Rattle.web.proofs.sets.medias_in.Given as goal

abbrev pub invariant-loop-line : goal.invariant-loop-line
invariant-loop-line l =
    l.found.items ≡ flat_map (λ (x : Bor (List ℕ)). line_media l.publisher x.now) (take l.line-index l.lines)
