-- Which packets an entry of a generic NACK names (RFC 4585, section 6.2.1).
use Rattle.std.specs.Prelude.{◌==◌, ℕ, ◌+◌, ◌-◌, ◌/◌, ◌%◌, ◌^◌, Bool, List, ◌∷◌, map, filter}
use Rattle.std.specs.List.{range_with_len}
use Rattle.rtcp_feedback.specs.declared.nack.Nack.{Nack}

-- bit i of BLP, counted from 1 for the least significant, is set
abbrev pub is_set : ℕ → ℕ → Bool
is_set blp i = blp / 2 ^ (i - 1) % 2 == 1

-- the packet PID itself, and of the 16 after it those whose bit is set; sequence numbers wrap at
-- 65,536 (RFC 4585, section 6.2.1)
unfoldable pub lost_numbers : Nack → List ℕ
lost_numbers n =
    n.pid ∷ map (λ i. (n.pid + i) % 2 ^ 16) (filter (is_set n.blp) (range_with_len 1 16))
