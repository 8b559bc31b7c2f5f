-- What is heard of a datagram that came, packet by packet, and what is left.
use Rattle.std.specs.Prelude.{◌≡◌, ◌+◌, ◌&&◌, ◌∷◌, ℕ, nat_lt, Bool, true, false, not, List, [], slice_get, slice_range, Option, None, Some, if◌then◌else◌}
use Rattle.std.specs.declared.net.socket_addr.SocketAddr.{SocketAddr}
use Rattle.tmmbr_tuple.specs.declared.ssrc.Ssrc.{Ssrc}
use Rattle.datagram.specs.Reads.{IsReadUpTo, IsSaidIn}
use Rattle.datagram.specs.declared.reading.Ask.{Ask}
use Rattle.datagram.specs.declared.reading.Ask.TheVariants.{Rate}
use Rattle.datagram.specs.declared.reading.Reading.{Reading}
use Rattle.datagram.specs.declared.reading.Sent.{Sent}
use Rattle.datagram.specs.declared.reading.What.{What}
use Rattle.datagram.specs.declared.reading.What.TheVariants.{Media, Goodbye, Control, Refused}
use Rattle.entrance.specs.declared.entrance.Admitted.{Admitted}
use Rattle.entrance.specs.declared.entrance.Admitted.TheVariants.{Nothing, Taking}
use Rattle.members.specs.declared.view.RoomView.{RoomView}
use Rattle.policy.specs.FloodLimiter.{buckets_with, is_within}
use Rattle.policy.specs.IngressFilter.{LooksForNothing}
use Rattle.policy.specs.declared.ingress_filter.Judged.{Judged}
use Rattle.policy.specs.declared.ingress_filter.Judged.TheVariants.{Take, HoldPacket, Anew as BegunAnew}
use Rattle.datagram.specs.Naming.{source_named}
use Rattle.addresses.specs.SenderTable.{front_length, sender_of}
use Rattle.addresses.specs.declared.sender_table.SourceAddress.{SourceAddress}
use Rattle.udp.specs.declared.hearing.Anew.{Anew}
use Rattle.udp.specs.declared.hearing.Hearing.{Hearing}
use Rattle.udp.specs.declared.hearing.Leftover.{Leftover}
use Rattle.udp.specs.declared.kept.Kept.{Kept}
use Rattle.policy.specs.declared.again.Again.{Again}
use Rattle.policy.specs.RateRequests.{HearsNext}
use Rattle.policy.specs.declared.rate_requests.RateRequests.{RateRequests}
use Rattle.settings.specs.Links.{LinkTable}
use Rattle.udp.specs.Kept.{IsOfSame, IsReadFrom, IsSpokenBy, SaysGoodbye, bytes_of, sent_by}
use Rattle.udp.specs.Policies.{IsHeld, IsJudged, IsWelcomed, Ruling, TakesFar, ruling_of}
use Rattle.udp.specs.Who.{AddressBook, MayLearn, Setup, after_note, address_book_of}

-- the packets of a rest
abbrev pub packets_in : Kept → Leftover → List ℕ
packets_in k rest = slice_range k.buffer.items rest.from rest.to

-- what is behind so many bytes of it, if anything is
abbrev pub rest_behind : Leftover → ℕ → Option Leftover
rest_behind rest count =
    if nat_lt (rest.from + count) rest.to then Some (record rest { from = rest.from + count }) else None

-- after a goodbye of an endpoint that began anew its far packet is heard, and then the one that followed that (RFC 3550, appendix A.1)
abbrev pub anew_after : Anew → Option Anew
anew_after a = if a.is_far_heard then None else Some (record a { is_far_heard = true })

-- this endpoint's is looked at, so many bytes at the front of these packets (RFC 3550, section 6.1)
abbrev pub LooksAt : Kept → Kept → Leftover → ℕ → ℕ → Type 0
LooksAt old new packets count endpoint =
    (new.sent.endpoint ≡ endpoint)
    × (bytes_of new ≡ slice_range old.buffer.items packets.from (packets.from + count))

-- ---- who was heard

abbrev pub is_goodbye : What → Bool
is_goodbye (Media packet) = false
is_goodbye Goodbye = true
is_goodbye (Control c) = false
is_goodbye (Refused refusal) = false

-- who sent this says goodbye itself: it isn't said in its name
abbrev pub has_left : Kept → Bool
has_left k = is_goodbye k.reading.what && not k.is_made

-- By these bytes their endpoint was heard at this moment, and said BYE if they say it (RFC 3550, section 6.6).
pub record IsNoted (own endpoint moment : ℕ) (bytes : List ℕ) (known later : AddressBook) : Type 0 where
  pub what : What
  pub asks : List Ask
  pub says : IsSaidIn own bytes (record { what = what; asks = asks })
  pub after : later ≡ after_note known endpoint moment (is_goodbye what)

-- ---- what was read is judged

-- a goodbye is taken in in its place
pub record SaysInstead (held later : RateRequests) (k l : Kept) (view : RoomView) : Type 0 where
  pub said : Kept
  pub same : IsOfSame k said
  pub goodbye : SaysGoodbye said.reading
  pub holds : IsHeld held later said.sent view said.reading l.reading

-- What is taken in of what the rules left, and what is heard later: it, once what it asks for is held; nothing of a packet that is put by; and a
-- goodbye of who began anew, after which the packets from one place to another are heard.
abbrev pub Follows : Judged → RateRequests → RateRequests → Kept → Kept → RoomView → Option Anew → Option Anew → ℕ → ℕ → Admitted → Type 0
Follows Take held later k l view anew next from to admitted =
    (admitted ≡ Taking) × (next ≡ anew) × IsHeld held later k.sent view k.reading l.reading
Follows HoldPacket held later k l view anew next from to admitted =
    (admitted ≡ Nothing) × (next ≡ anew) × (later ≡ held)
Follows BegunAnew held later k l view anew next from to admitted =
    (admitted ≡ Taking)
    × (next
    ≡ Some (record { endpoint = k.sent.endpoint; is_far_heard = false; from = from; to = to }))
    × SaysInstead held later k l view

-- This is let in of what was judged so.
pub record LetsIn (judged : Judged) (p q : Ruling) (k l : Kept) (view : RoomView)
    (anew next : Option Anew) (from to : ℕ) (admitted : Admitted) : Type 0 where
  pub follows : Follows judged p.requests q.requests k l view anew next from to admitted
  pub same : IsOfSame k l
  pub ingress_filter : q.ingress_filter ≡ p.ingress_filter
  pub held_packets : q.held_packets ≡ p.held_packets
  pub most : q.most ≡ p.most

-- the bytes that are kept, the rules, and who began anew, before packets are heard
pub record Stand : Type 0 where
  pub bytes : List ℕ
  pub ruling : Ruling
  pub anew : Option Anew

abbrev pub stand_of : Hearing → Stand
stand_of h =
    record { bytes = h.kept.buffer.items; ruling = ruling_of h.policies; anew = h.anew }

-- What this client sent, from a place to another among the bytes that are kept, is read; who comes anew is welcomed; then it is judged, and let in
-- as it was judged.
pub record HearsRead (sent : Sent) (stand : Stand) (view : RoomView) (from to : ℕ) (k : Hearing)
    (admitted : Admitted) : Type 0 where
  pub read : Kept
  pub left : Kept
  pub after : Ruling
  pub between : Ruling
  pub judged : Judged
  pub reads : IsReadFrom sent (slice_range stand.bytes from to) stand.ruling.most read
  pub welcomes : IsWelcomed stand.ruling after read view
  pub judges : IsJudged after between read left judged
  pub lets : LetsIn judged between (ruling_of k.policies) left k.kept view stand.anew k.anew from to admitted
  pub bytes : k.kept.buffer.items ≡ stand.bytes

-- What this client sent, from a place to another among the bytes that are kept, is read and taken in, since it was judged before.
pub record TakesIn (sent : Sent) (bytes : List ℕ) (ruling : Ruling) (view : RoomView) (from to : ℕ)
    (k : Hearing) (admitted : Admitted) : Type 0 where
  pub read : Kept
  pub takes : admitted ≡ Taking
  pub reads : IsReadFrom sent (slice_range bytes from to) ruling.most read
  pub holds : IsHeld ruling.requests k.policies.requests read.sent view read.reading k.kept.reading
  pub same : IsOfSame read k.kept
  pub stays : k.kept.buffer.items ≡ bytes
  pub ingress_filter : k.policies.ingress_filter ≡ ruling.ingress_filter
  pub held_packets : k.policies.held_packets ≡ ruling.held_packets
  pub most : k.policies.most ≡ ruling.most

-- The packet of an endpoint that began anew which was put by is counted of it, read and taken in.
pub record HearsFar (sent : Sent) (h k : Hearing) (view : RoomView) (admitted : Admitted) : Type 0 where
  pub filled : Kept
  pub counted : Ruling
  pub to : ℕ
  pub far : TakesFar (ruling_of h.policies) counted h.kept filled sent.endpoint sent.moment to
  pub takes : TakesIn sent filled.buffer.items counted view 65535 to k admitted

-- no start is looked for, who speaks has to be the own source, nothing is bounded, nothing held and nothing waits
pub record AsksNothing (r : Ruling) : Type 0 where
  pub looks : LooksForNothing r.ingress_filter
  pub holds : r.requests.holding ≡ None
  pub gaps : r.requests.gaps ≡ None
  pub all : r.most ≡ None

-- It is taken in as it was read.
pub record TakesAll (sent : Sent) (bytes : List ℕ) (k : Hearing) (admitted : Admitted) : Type 0 where
  pub takes : admitted ≡ Taking
  pub reads : IsReadUpTo sent.own.0 bytes None k.kept.reading

-- ---- a datagram that came

-- How origins and addresses are compared, and the source of each endpoint.
pub record Bearings : Type 0 where
  pub setup : Setup
  pub same_origin : SourceAddress → SourceAddress → Bool
  pub source : ℕ → Ssrc

-- who sent it, and how much of it is heard at once, by those who are known
abbrev pub sender_by : Bearings → AddressBook → SocketAddr → List ℕ → Option ℕ
sender_by unit known address datagram =
    sender_of unit.same_origin unit.setup.same known.senders address (source_named datagram)

abbrev pub front_by : Bearings → AddressBook → SocketAddr → List ℕ → ℕ
front_by unit known address datagram =
    front_length unit.setup.same known.senders address datagram

-- there is room for one more of this endpoint at this moment
abbrev pub is_admitted : Hearing → ℕ → ℕ → Bool
is_admitted h endpoint moment =
    is_within h.policies.floods.0 (slice_get h.policies.floods.1 endpoint) moment

-- Once a datagram of this moment, all of these packets, came from this address: what is learned of it; and then, by those who are known from
-- then on, whose it is, and how much of it is heard at once, by the rules. It is counted of who sent it if it isn't too many; who sent it is noted by
-- what is heard, and what is behind that is left. A stranger's is passed over, and one that is too many is gone.
pub record HearsDatagram (unit : Bearings) (view : RoomView) (h k : Hearing) (moment : ℕ) (whole : Leftover)
    (admitted : Admitted) : Type 0 where
  pub between : AddressBook
  pub learned : MayLearn unit.setup whole.address (packets_in h.kept whole) moment (address_book_of h.who) between
  pub stranger : sender_by unit between whole.address (packets_in h.kept whole) ≡ None
      → (admitted ≡ Nothing) × (address_book_of k.who ≡ between) × (k.policies.floods ≡ h.policies.floods)
      × (stand_of k ≡ stand_of h) × (k.rest
      ≡ rest_behind whole (front_by unit between whole.address (packets_in h.kept whole)))
  pub counted : (endpoint : ℕ)
      → sender_by unit between whole.address (packets_in h.kept whole) ≡ Some endpoint
      → k.policies.floods
      ≡ (h.policies.floods.0, buckets_with h.policies.floods.0 h.policies.floods.1 endpoint moment)
  pub flood : (endpoint : ℕ)
      → sender_by unit between whole.address (packets_in h.kept whole) ≡ Some endpoint
      → is_admitted h endpoint moment ≡ false
      → (admitted ≡ Nothing) × (address_book_of k.who ≡ between) × (stand_of k ≡ stand_of h) × (k.rest ≡ None)
  pub noted : (endpoint : ℕ)
      → sender_by unit between whole.address (packets_in h.kept whole) ≡ Some endpoint
      → is_admitted h endpoint moment ≡ true
      → IsNoted (unit.source endpoint).0 endpoint moment
      (slice_range h.kept.buffer.items whole.from
      (whole.from + front_by unit between whole.address (packets_in h.kept whole)))
      between (address_book_of k.who)
  pub looks : (endpoint : ℕ)
      → sender_by unit between whole.address (packets_in h.kept whole) ≡ Some endpoint
      → is_admitted h endpoint moment ≡ true
      → LooksAt h.kept k.kept whole
      (front_by unit between whole.address (packets_in h.kept whole)) endpoint
  pub judged : (endpoint : ℕ)
      → sender_by unit between whole.address (packets_in h.kept whole) ≡ Some endpoint
      → is_admitted h endpoint moment ≡ true
      → HearsRead (record { moment = moment; endpoint = endpoint; own = unit.source endpoint })
      (stand_of h) view whole.from
      (whole.from + front_by unit between whole.address (packets_in h.kept whole)) k admitted
  pub rest : (endpoint : ℕ)
      → sender_by unit between whole.address (packets_in h.kept whole) ≡ Some endpoint
      → is_admitted h endpoint moment ≡ true
      → k.rest
      ≡ rest_behind whole (front_by unit between whole.address (packets_in h.kept whole))

-- The rest of a datagram, all of these packets: whose it is, and how much of it is heard at once, by the rules. Who sent it is noted by what is
-- heard, and what is behind that is left. A stranger's is passed over.
pub record HearsRest (unit : Bearings) (view : RoomView) (h k : Hearing) (moment : ℕ) (rest : Leftover)
    (admitted : Admitted) : Type 0 where
  pub stranger : sender_by unit (address_book_of h.who) rest.address (packets_in h.kept rest) ≡ None
      → (admitted ≡ Nothing) × (address_book_of k.who ≡ address_book_of h.who) × (stand_of k ≡ stand_of h)
  pub noted : (endpoint : ℕ)
      → sender_by unit (address_book_of h.who) rest.address (packets_in h.kept rest) ≡ Some endpoint
      → IsNoted (unit.source endpoint).0 endpoint moment
      (slice_range h.kept.buffer.items rest.from
      (rest.from + front_by unit (address_book_of h.who) rest.address (packets_in h.kept rest)))
      (address_book_of h.who) (address_book_of k.who)
  pub looks : (endpoint : ℕ)
      → sender_by unit (address_book_of h.who) rest.address (packets_in h.kept rest) ≡ Some endpoint
      → LooksAt h.kept k.kept rest
      (front_by unit (address_book_of h.who) rest.address (packets_in h.kept rest)) endpoint
  pub judged : (endpoint : ℕ)
      → sender_by unit (address_book_of h.who) rest.address (packets_in h.kept rest) ≡ Some endpoint
      → HearsRead (record { moment = moment; endpoint = endpoint; own = unit.source endpoint })
      (stand_of h) view rest.from
      (rest.from + front_by unit (address_book_of h.who) rest.address (packets_in h.kept rest)) k admitted
  pub left : k.rest
      ≡ rest_behind rest (front_by unit (address_book_of h.who) rest.address (packets_in h.kept rest))

-- ---- what is said in a client's name

-- It is heard that this client is there, which asks for nothing.
pub record IsPresentHeld (held later : RateRequests) (sent : Sent) (view : RoomView) (now : Reading)
    : Type 0 where
  pub said : Reading
  pub speaks : IsSpokenBy sent.own [] said
  pub holds : IsHeld held later sent view said now

abbrev pub SaysAgain : Option Again → LinkTable → ℕ → Kept → Bool → Type 0
SaysAgain None table moment kept asked = asked ≡ false
SaysAgain (Some again) table moment kept asked =
    (asked ≡ true) × (kept.sent ≡ sent_by table again.endpoint moment)
    × IsSpokenBy again.speaker (Rate again.media again.word ∷ []) kept.reading

-- What is found of what was asked for before is asked for now, in the subscriber's name.
pub record AsksAgain (h k : Hearing) (view : RoomView) (moment : ℕ) (asked : Bool) : Type 0 where
  pub again : Option Again
  pub found : HearsNext h.policies.requests k.policies.requests view moment again
  pub says : SaysAgain again view.links.now moment k.kept asked
