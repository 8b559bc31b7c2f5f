use Rattle.std.proofs.Common.{◌≡◌, List, ◌++◌, Ok}
use Rattle.rtcp_compound.specs.Left.{contents_left}
use Rattle.datagram.specs.declared.reading.Ask.{Ask}
use Rattle.datagram.specs.Reads.{IsListed}
use Rattle.datagram.specs.Saying.{Gist, PacketsSay}
use Rattle.datagram.proofs.asks.collect.Given as goal

abbrev pub invariant-loop-packet : goal.invariant-loop-packet
invariant-loop-packet l = (gist : Gist) → PacketsSay (contents_left l.fn.packets) (Ok gist)
    → (done : List Ask) × (rest : Gist) × PacketsSay (contents_left l.packet-iterator) (Ok rest)
    × ((asks : List Ask) → IsListed l.most asks l.fn.reading → IsListed l.most (asks ++ done) l.reading) × (gist.asks ≡ done ++ rest.asks)
