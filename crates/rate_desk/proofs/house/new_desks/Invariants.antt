use Rattle.std.proofs.Common.{◌≡◌, ◌≤◌, ◌<◌, ℕ, get_or, vec_len, ◌+◌}
use Rattle.rate_desk.proofs.house.new_desks.Given as goal

abbrev pub invariant-loop-publisher : goal.invariant-loop-publisher
invariant-loop-publisher g l = record {
  parts : l.publishers ≤ l.shares.parts + l.publisher;
  no_calls : l.shares.amount ≡ 0;
  count : vec_len l.desks ≡ l.publisher;
  order : (p : ℕ) → p < l.publisher → get_or l.desks.items p 0 ≡ p;
}
