use Rattle.std.proofs.Common.{◌≡◌, ◌-◌}
use Rattle.rtcp_feedback.proofs.NackLemmas.{numbers_among}
use Rattle.rtcp_feedback.proofs.nack.lost.Given as goal

abbrev pub invariant-loop-i : goal.invariant-loop-i
invariant-loop-i l = l.numbers.items ≡ numbers_among l.nack (l.i - 1)
