-- Which packets an entry names whose bits are all 0.
use Rattle.std.proofs.Common.{◌≡◌, ℕ, ◌+◌, ◌%◌, List, [], ◌∷◌, map, ap}
use Rattle.std.specs.List.{filter, range_with_len}
use Rattle.rtcp_feedback.specs.declared.nack.Nack.{Nack}
use Rattle.rtcp_feedback.specs.Nack.{is_set, lost_numbers}

-- its PID alone (RFC 4585, section 6.2.1)
pub one_lost : (n : Nack) → n.blp ≡ 0 → lost_numbers n ≡ n.pid ∷ []
unfolding lost_numbers
one_lost n none = ap (λ (blp : ℕ). n.pid ∷ map (λ i. (n.pid + i) % 65536) (filter (is_set blp) (range_with_len 1 16))) none
