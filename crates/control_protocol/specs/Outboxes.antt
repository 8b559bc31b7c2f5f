-- What waits for a peer that follows what happens, and when that ends.
use Rattle.std.specs.Prelude.{ℕ, ◌+◌, ◌-◌, ◌++◌, nat_le, Bool, true, false, List, [], length, codes, if◌then◌else◌}
use Rattle.control_protocol.specs.declared.outbox.TheConstants.{MAX_OUTBOX}

-- the lines that were put since the peer last had all, how many bytes of them it took, and whether the last line was put
pub record OutboxState : Type 0 where
  pub lines : List ℕ
  pub taken : ℕ
  pub is_over : Bool

abbrev pub new_outbox : OutboxState
new_outbox = record { lines = []; taken = 0; is_over = false }

-- what the last line says: the peer is too slow, and is let go
abbrev pub last_line : List ℕ
last_line = codes "ended slow\n"

-- Lines wait behind the others, unless more bytes would wait than may. Then the last line waits in their place, and nothing is put any more.
abbrev pub with_put : OutboxState → List ℕ → OutboxState
with_put o lines =
    if o.is_over then o
    else if nat_le (length o.lines + length lines) MAX_OUTBOX then record o { lines = o.lines ++ lines }
    else record o { lines = o.lines ++ last_line; is_over = true }

-- so many bytes more were taken; once the peer has all, nothing waits
abbrev pub with_taken : OutboxState → ℕ → OutboxState
with_taken o count =
    if nat_le (length o.lines - o.taken) count then record o { lines = []; taken = 0 }
    else record o { taken = o.taken + count }
