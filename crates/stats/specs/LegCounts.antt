-- What went out on a leg.
use Rattle.std.specs.Prelude.{ℕ, ◌+◌, ◌-◌, ◌%◌, nat_lt, Bool, true, Option, None, Some, if◌then◌else◌}
use Rattle.datagram.specs.Counts.{risen}
use Rattle.stats.specs.declared.leg_count.LegCount.{LegCount}

-- a number is the next one or newer: it is ahead by fewer than half of the numbers, across the wrap (RFC 3550, section 5.1)
abbrev pub is_new : Option ℕ → ℕ → Bool
is_new None seq = true
is_new (Some next) seq = nat_lt ((seq + (65536 - next)) % 65536) 32768

-- the count, with a packet of this number and so many bytes of payload
abbrev pub count_with : LegCount → ℕ → ℕ → LegCount
count_with count seq octets = record {
  packets = risen count.packets 1;
  octets = risen count.octets octets;
  resent = if is_new count.next seq then count.resent else risen count.resent 1;
  missed = count.missed;
  skipped = count.skipped;
  next = if is_new count.next seq then Some ((seq + 1) % 65536) else count.next;
}
