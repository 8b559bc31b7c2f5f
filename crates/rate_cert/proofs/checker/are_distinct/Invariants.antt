use Rattle.std.proofs.Common.{◌≡◌, ℕ, ◌<◌, get_or}
use Rattle.rate_cert.proofs.checker.are_distinct.Given as goal

abbrev pub invariant-loop-j : goal.invariant-loop-j
invariant-loop-j l = (i k : ℕ) → i < k → k < l.j → get_or l.places i 0 ≡ get_or l.places k 0 → ⊥

abbrev pub invariant-loop-i : goal.invariant-loop-i
invariant-loop-i l = (i : ℕ) → i < l.i → get_or l.places i 0 ≡ get_or l.places l.j 0 → ⊥
