-- What of what came is taken in, and the datagram that says it.
use Rattle.std.specs.Prelude.{◌≡◌, ◌&&◌, ◌+◌, ◌++◌, take, drop, ℕ, nat_lt, nat_le, Bool, List, [], length, Option, None, Ok, slice_range}
use Rattle.tmmbr_tuple.specs.declared.ssrc.Ssrc.{Ssrc}
use Rattle.settings.specs.Links.{LinkTable}
use Rattle.desk_calls.specs.DeskCalls.{source_of}
use Rattle.datagram.specs.Notes.{IsNoted}
use Rattle.datagram.specs.Reads.{Admission, IsClocked, IsPacketRead, IsReadUpTo}
use Rattle.datagram.specs.Saying.{JoinsPackets}
use Rattle.datagram.specs.Spelling.{IsAsHeard, spelling}
use Rattle.datagram.specs.declared.reading.Ask.{Ask}
use Rattle.datagram.specs.declared.reading.Reading.{Reading}
use Rattle.datagram.specs.declared.reading.Sent.{Sent}
use Rattle.datagram.specs.declared.reading.What.TheVariants.{Control, Goodbye}
use Rattle.udp.specs.declared.kept.Kept.{Kept}

-- the bytes that are heard
abbrev pub bytes_of : Kept → List ℕ
bytes_of k = slice_range k.buffer.items k.from k.to

-- what is taken in of them
abbrev pub admission_in : Kept → Admission
admission_in k = record {
  endpoint = k.sent.endpoint;
  what = k.reading.what;
  asks = k.reading.asks.items;
  bytes = bytes_of k;
}

-- a packet that was put by is there, and no longer than a datagram
abbrev pub is_there : List ℕ → Bool
is_there packet = nat_lt 0 (length packet) && nat_le (length packet) 65535

-- these bytes, with a packet behind where datagrams come
abbrev pub with_behind : List ℕ → List ℕ → List ℕ
with_behind bytes packet =
    take 65535 bytes ++ (packet ++ drop (65535 + length packet) bytes)

-- a datagram that says it
abbrev pub datagram_in : Kept → List ℕ
datagram_in k = spelling k.sent.own.0 k.reading.what k.reading.asks.items (bytes_of k)

-- this endpoint sent it at this moment, under its own source
abbrev pub sent_by : LinkTable → ℕ → ℕ → Sent
sent_by table endpoint moment =
    record { moment = moment; endpoint = endpoint; own = source_of table endpoint }

-- the same bytes of who sent them
pub record IsOfSame (k l : Kept) : Type 0 where
  pub heard : bytes_of l ≡ bytes_of k
  pub buffer : l.buffer ≡ k.buffer
  pub sender : l.sent ≡ k.sent

-- What this client sent was read of these bytes, up to so many entries, and noted.
pub record IsReadFrom (sent : Sent) (bytes : List ℕ) (most : Option ℕ) (k : Kept) : Type 0 where
  pub sender : k.sent ≡ sent
  pub came : bytes_of k ≡ bytes
  pub reads : IsReadUpTo sent.own.0 bytes most k.reading
  pub clocked : IsClocked sent.own.0 (λ gist. JoinsPackets bytes (Ok gist)) k.reading.what k.reading.clocked.0
  pub notes : IsNoted bytes k.notes

-- a goodbye, which asks for nothing
pub record SaysGoodbye (r : Reading) : Type 0 where
  pub leaves : r.what ≡ Goodbye
  pub nothing : r.asks.items ≡ []

-- It may be taken in, under the endpoint's own source: it is what these bytes say, or what is made of that; and a packet has the number and
-- the octets of its bytes.
pub record MayBeTaken (table : LinkTable) (k : Kept) : Type 0 where
  pub own : k.sent.own ≡ source_of table k.sent.endpoint
  pub heard : IsAsHeard k.sent.own.0 k.reading.what k.reading.asks.items (bytes_of k)
  pub packet : IsPacketRead (bytes_of k) k.reading.what

-- This source speaks, and asks for this, and nothing more: a report without blocks, and such feedback (RFC 3550, section 6.4.2).
pub record IsSpokenBy (speaker : Ssrc) (asks : List Ask) (r : Reading) : Type 0 where
  pub what : r.what ≡ Control (record { speaker = speaker; report = None; tmmbns = 0 })
  pub asks_for : r.asks.items ≡ asks
