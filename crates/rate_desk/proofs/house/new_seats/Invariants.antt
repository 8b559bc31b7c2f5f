use Rattle.std.proofs.Common.{◌≡◌, ◌≤◌, replicate, ◌+◌}
use Rattle.rate_desk.specs.Shares.{new_seat}
use Rattle.rate_desk.proofs.house.new_seats.Given as goal

abbrev pub invariant-loop-at : goal.invariant-loop-at
invariant-loop-at g l = (l.seats ≤ l.shares.parts + l._at) × (l.shares.amount ≡ 0) × (l.free.items ≡ replicate l._at (new_seat l.publishers))
