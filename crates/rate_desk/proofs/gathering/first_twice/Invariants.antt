use Rattle.std.proofs.Common.{ℕ, ◌<◌, slice_index_or}
use Rattle.rate_desk.specs.declared.receipt.Receipt.{Receipt}
use Rattle.rate_desk.specs.Gathered.{IsApart}
use Rattle.rate_desk.proofs.gathering.first_twice.Given as goal

abbrev pub invariant-loop-later : goal.invariant-loop-later
invariant-loop-later l = (i j : ℕ) (d : Receipt) → i < j → j < l.later → IsApart (slice_index_or l.receipts i d) (slice_index_or l.receipts j d)

abbrev pub invariant-loop-earlier : goal.invariant-loop-earlier
invariant-loop-earlier l = record {
  before : (i j : ℕ) (d : Receipt) → i < j → j < l.later → IsApart (slice_index_or l.receipts i d) (slice_index_or l.receipts j d);
  here : (i : ℕ) (d : Receipt) → i < l.earlier → IsApart (slice_index_or l.receipts i d) (slice_index_or l.receipts l.later d);
}
