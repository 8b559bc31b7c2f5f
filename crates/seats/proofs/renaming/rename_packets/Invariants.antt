use Rattle.std.proofs.Common.{◌-◌, length}
use Rattle.seats.specs.Exchange.{packet_as}
use Rattle.seats.proofs.WalkLemmas.{IsUnderWay}
use Rattle.seats.proofs.renaming.rename_packets.Given as goal

abbrev pub invariant-loop-at : goal.invariant-loop-at
invariant-loop-at l = IsUnderWay (packet_as l.way l.names) l.fn.packets l.packets l.at

abbrev pub decreases-loop-at : goal.decreases-loop-at
decreases-loop-at l = length l.packets - l.at
