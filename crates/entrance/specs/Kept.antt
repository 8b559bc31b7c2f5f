-- What contracts see of what an entrance keeps.
use Rattle.std.specs.Prelude.{ℕ, List, take, Result, Ok, Err}
use Rattle.datagram.specs.Reads.{Admission}
use Rattle.entrance.specs.declared.direct.Kept.{Kept}
use Rattle.ports.specs.declared.source.ReceiveFault.{ReceiveFault}
use Rattle.ports.specs.declared.feed.Received.{Received}
use Rattle.ports.specs.declared.feed.Received.TheVariants.{Nothing, Datagram, Select, Stop}
use Rattle.ports.specs.Outside.{Arrival, came, chosen, stop, silence, failure}

-- the datagram that came last
abbrev pub datagram_in : Kept → List ℕ
datagram_in k = take k.size k.buffer.items

-- what was read of it, as it is taken in
abbrev pub admission_in : Kept → Admission
admission_in k = record {
  endpoint = k.endpoint;
  what = k.reading.what;
  asks = k.reading.asks.items;
  bytes = datagram_in k;
}

-- what came, if the datagram is the one that is kept
abbrev pub arrival_kept : Kept → Result Received ReceiveFault → Arrival
arrival_kept k (Ok Nothing) = silence
arrival_kept k (Ok (Datagram endpoint count)) = came k.endpoint (datagram_in k)
arrival_kept k (Ok (Select leg on)) = chosen leg on
arrival_kept k (Ok Stop) = stop
arrival_kept k (Err fault) = failure
