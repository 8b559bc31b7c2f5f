-- The lines of who came and went, one after the other.
use Rattle.std.proofs.Common.{◌≡◌, ◌∙◌, ℕ, ◌+◌, ◌<◌, ◌≤◌, Bool, false, List, [], ◌∷◌, ◌++◌, length, drop, get_or, drop-cons, add-one, append_assoc, sym, ap, ap₂, inl, inr, arith}
use Rattle.std.proofs.lemmas.Bool.{cases_lt}
use Rattle.std.proofs.lemmas.List.{drop_all, get_or_past}
use Rattle.control_protocol.specs.PresenceNews.{change_line, presence_news}

from_here : {X : Type 0} (xs : List X) (k : ℕ) (d : X) → k < length xs → drop k xs ≡ get_or xs k d ∷ drop (k + 1) xs
from_here xs k d below = drop-cons xs k d below ∙ ap (λ n. get_or xs k d ∷ drop n xs) (sym (add-one k))

-- the line of an endpoint, and those of the others after it
news_at : (k : ℕ) (before after : List Bool) (d : Bool) → k < length after
    → presence_news k (drop k before) (drop k after)
    ≡ change_line k (get_or before k false) (get_or after k d) ++ presence_news (k + 1) (drop (k + 1) before) (drop (k + 1) after)
news_at k before after d below =
    elim (cases_lt k (length before)) [
      | inl known ↦ ap₂ (presence_news k) (from_here before k false known) (from_here after k d below)
      | inr past ↦
          ap₂ (presence_news k) (drop_all k before past) (from_here after k d below)
          ∙ ap₂ (λ (was : Bool) (rest : List Bool). change_line k was (get_or after k d) ++ presence_news (k + 1) rest (drop (k + 1) after))
          (sym (get_or_past before k false past)) (sym (drop_all (k + 1) before (omega (arith, past))))
    ]

-- once the line of an endpoint stands after the text, the others are still to come
pub pushed : (k : ℕ) (before after : List Bool) (d : Bool) (old new line all : List ℕ) → k < length after
    → new ≡ old ++ line → line ≡ change_line k (get_or before k false) (get_or after k d)
    → old ++ presence_news k (drop k before) (drop k after) ≡ all
    → new ++ presence_news (k + 1) (drop (k + 1) before) (drop (k + 1) after) ≡ all
pushed k before after d old new line all below grown is left =
    let others = presence_news (k + 1) (drop (k + 1) before) (drop (k + 1) after) in
    ap (λ x. x ++ others) grown ∙ append_assoc old line others
    ∙ ap (λ x. old ++ x) (ap (λ x. x ++ others) is ∙ sym (news_at k before after d below)) ∙ left
