-- One element more that was read in range.
use Rattle.std.proofs.Common.{◌≡◌, ℕ, ◌+◌, ◌<◌, List, [], ◌∷◌, ◌++◌, length, get_or, take, map, sym, ap, ◌∙◌}
use Rattle.std.specs.List.{AllWithin}
use Rattle.std.proofs.lemmas.List.{map_more}
use Rattle.std.proofs.lemmas.List.Elements.{AllWithin-more}
use Rattle.rate_cert.proofs.CheckerLemmas.{holds_at}

pub read_more : {A B : Type 0} (f : A → B) (Fact : A → Type 0) (xs : List A) (before after : List B) (i : ℕ) (d : A) (b : B) → i < length xs
    → after ≡ before ++ b ∷ [] → (before ≡ map f (take i xs)) × AllWithin Fact xs 0 i → b ≡ f (get_or xs i d) → Fact (get_or xs i d)
    → (after ≡ map f (take (i + 1) xs)) × AllWithin Fact xs 0 (i + 1)
read_more f Fact xs before after i d b below grown so_far is holds = (
  grown ∙ ap (λ bs. bs ++ b ∷ []) so_far.0 ∙ ap (λ x. map f (take i xs) ++ x ∷ []) is ∙ sym (map_more f xs i d below),
  AllWithin-more Fact xs 0 i so_far.1 (holds_at Fact xs i d below holds),
)
