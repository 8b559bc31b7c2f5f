use Rattle.std.proofs.Common.{◌≡◌, List, ◌++◌}
use Rattle.rtcp_compound.specs.Content.{Content}
use Rattle.rtcp_compound.specs.Left.{contents_left}
use Rattle.seats.specs.Spoken.{spoken_in}
use Rattle.seats.proofs.spoken.spoken_among.Given as goal

abbrev pub invariant-loop-packet : goal.invariant-loop-packet
invariant-loop-packet l = (done : List Content) × (l.spoken ≡ spoken_in done) × (contents_left l.fn.packets ≡ done ++ contents_left l.packet-iterator)
