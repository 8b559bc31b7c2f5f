-- What is told was refused at least once.
use Rattle.std.proofs.Common.{◌≤◌, List, [], ◌∷◌, ◌++◌}
use Rattle.std.proofs.lemmas.List.Elements.{All-append, All-cons, All-nil}
use Rattle.stats.specs.declared.refusals.RefusedCount.{RefusedCount}
use Rattle.stats.specs.Refusals.{AreCounted}

pub counted_more : (counts : List RefusedCount) (c : RefusedCount) → AreCounted counts → 1 ≤ c.count → AreCounted (counts ++ c ∷ [])
counted_more counts c are one =
    let P : RefusedCount → Type 0 = λ x. 1 ≤ x.count in
    All-append P counts (c ∷ []) are (All-cons P c [] one (All-nil P))
