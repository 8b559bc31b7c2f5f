use Rattle.std.proofs.Common.{ℕ, ◌<◌, slice_index_or}
use Rattle.rate_desk.specs.declared.receipt.Receipt.{Receipt}
use Rattle.rate_desk.specs.Gathered.{Fits}
use Rattle.rate_desk.proofs.gathering.first_differing.Given as goal

abbrev pub invariant-loop-receipt : goal.invariant-loop-receipt
invariant-loop-receipt l = (k : ℕ) (d : Receipt) → k < l.receipt-index → Fits l.desks (slice_index_or l.receipts k d)
