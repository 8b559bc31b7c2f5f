-- The lines of a report, one after the other.
use Rattle.std.proofs.Common.{◌≡◌, ◌∙◌, ℕ, ◌+◌, ◌<◌, List, ◌∷◌, ◌++◌, length, drop, get_or, drop-cons, add-one, append_assoc, sym, ap, ap₂}
use Rattle.tmmbr_tuple.specs.declared.ssrc.Ssrc.{Ssrc}
use Rattle.bounding_set.specs.State.{announced_of}
use Rattle.desk.specs.State.{DeskState}
use Rattle.request_text.specs.BoundText.{announced_line}
use Rattle.serving.specs.ReportText.{announced_lines}

from_here : {X : Type 0} (xs : List X) (k : ℕ) (d : X) → k < length xs → drop k xs ≡ get_or xs k d ∷ drop (k + 1) xs
from_here xs k d below = drop-cons xs k d below ∙ ap (λ n. get_or xs k d ∷ drop n xs) (sym (add-one k))

-- the line at a place, and the others after it
pub line_at : (senders : List Ssrc) (desks : List DeskState) (k : ℕ) (s : Ssrc) (d : DeskState) → k < length senders → k < length desks
    → announced_lines (drop k senders) (drop k desks)
    ≡ announced_line (get_or senders k s).0 (announced_of (get_or desks k d).bounds) ++ announced_lines (drop (k + 1) senders) (drop (k + 1) desks)
line_at senders desks k s d among here = ap₂ announced_lines (from_here senders k s among) (from_here desks k d here)

-- once the line at a place stands after the text, the others are still to come
pub pushed : (senders : List Ssrc) (desks : List DeskState) (k : ℕ) (s : Ssrc) (d : DeskState) (old new line all : List ℕ) → k < length senders → k < length desks
    → new ≡ old ++ line → line ≡ announced_line (get_or senders k s).0 (announced_of (get_or desks k d).bounds)
    → old ++ announced_lines (drop k senders) (drop k desks) ≡ all → new ++ announced_lines (drop (k + 1) senders) (drop (k + 1) desks) ≡ all
pushed senders desks k s d old new line all among here grown is left =
    let others = announced_lines (drop (k + 1) senders) (drop (k + 1) desks) in
    ap (λ x. x ++ others) grown ∙ append_assoc old line others
    ∙ ap (λ x. old ++ x) (ap (λ x. x ++ others) is ∙ sym (line_at senders desks k s d among here)) ∙ left
