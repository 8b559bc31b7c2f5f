use Rattle.std.proofs.Common.{◌≡◌, List, ◌++◌}
use Rattle.rtcp_compound.specs.Content.{Content}
use Rattle.rtcp_compound.specs.Left.{contents_left}
use Rattle.datagram.specs.Kinds.{kinds_in}
use Rattle.datagram.proofs.kinds.kinds_among.Given as goal

abbrev pub invariant-loop-packet : goal.invariant-loop-packet
invariant-loop-packet l = (done : List Content) × (l.kinds ≡ kinds_in done) × (contents_left l.fn.packets ≡ done ++ contents_left l.packet-iterator)
