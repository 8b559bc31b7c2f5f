use Rattle.std.proofs.Common.{◌≡◌, length}
use Rattle.rtcp_compound.specs.Reading.{after_items}
use Rattle.rtcp_compound.proofs.sdes.after_items.Given as goal

abbrev pub decreases-loop-rest : goal.decreases-loop-rest
decreases-loop-rest l = length l.rest

abbrev pub invariant-loop-rest : goal.invariant-loop-rest
invariant-loop-rest l = after_items 0 l.rest ≡ after_items 0 l.fn.items
