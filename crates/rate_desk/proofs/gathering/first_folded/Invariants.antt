use Rattle.std.proofs.Common.{ℕ, ◌<◌, slice_index_or}
use Rattle.rate_desk.specs.declared.receipt.Receipt.{Receipt}
use Rattle.rate_desk.specs.Gathered.{StandsIn}
use Rattle.rate_desk.proofs.gathering.first_folded.Given as goal

abbrev pub invariant-loop-receipt : goal.invariant-loop-receipt
invariant-loop-receipt l = (k : ℕ) (d : Receipt) → k < l.receipt-index → StandsIn l.desks (slice_index_or l.receipts k d)
