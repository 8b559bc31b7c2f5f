use Rattle.std.proofs.Common.{length}
use Rattle.rtcp_compound.specs.Fault.{Passes}
use Rattle.rtcp_compound.proofs.packets.split.Given as goal

abbrev pub invariant-loop-behind : goal.invariant-loop-behind
invariant-loop-behind l = Passes l.datagram l.rest

abbrev pub decreases-loop-behind : goal.decreases-loop-behind
decreases-loop-behind l = length l.rest
