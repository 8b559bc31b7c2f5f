use Rattle.std.proofs.Common.{◌≡◌}
use Rattle.rtcp_compound.specs.Reading.{after_chunks}
use Rattle.rtcp_compound.proofs.sdes.after_chunks.Given as goal

abbrev pub invariant-loop-left : goal.invariant-loop-left
invariant-loop-left l = after_chunks l.left l.rest ≡ after_chunks l.count l.body

abbrev pub decreases-loop-left : goal.decreases-loop-left
decreases-loop-left l = l.left
