-- What is known grows.
use Rattle.std.proofs.Common.{List, ◌++◌, append_assoc, sym, ap, ◌∙◌}
use mathlib.Core.List.{IsPrefix}

pub prefix_trans : {A : Type 0} (xs ys zs : List A) → IsPrefix xs ys → IsPrefix ys zs → IsPrefix xs zs
prefix_trans {A} xs ys zs first last = (
  first.0 ++ last.0,
  sym (append_assoc xs first.0 last.0) ∙ ap (λ (l : List A). l ++ last.0) first.1 ∙ last.1,
)
