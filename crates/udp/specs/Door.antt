-- What is heard next, and when.
use Rattle.std.specs.Prelude.{⊤, ◌≡◌, ◌≤◌, ◌<◌, ◌⊎◌, ℕ, Bool, true, false, [], None, Some, Option, Result, Ok, Err, length}
use Rattle.std.specs.declared.net.socket_addr.SocketAddr.{SocketAddr}
use Rattle.entrance.specs.declared.entrance.Admitted.{Admitted}
use Rattle.entrance.specs.declared.entrance.Came.{Came}
use Rattle.entrance.specs.declared.entrance.Admitted.TheVariants.{Nothing, Taking, Select, Stop}
use Rattle.members.specs.declared.view.RoomView.{RoomView}
use Rattle.ports.specs.declared.source.ReceiveFault.{ReceiveFault}
use Rattle.entrance.specs.Entrance.{IfTaken}
use Rattle.udp.specs.declared.hearing.Anew.{Anew}
use Rattle.udp.specs.declared.hearing.Hearing.{Hearing}
use Rattle.udp.specs.declared.hearing.Leftover.{Leftover}
use Rattle.udp.specs.declared.who.Who.{Who}
use Rattle.udp.specs.Hearing.{AsksAgain, Bearings, HearsDatagram, HearsFar, HearsRest, TakesIn, anew_after, has_left, packets_in}
use Rattle.udp.specs.Kept.{IsSpokenBy, is_there, sent_by}
use Rattle.udp.specs.Who.{address_book_of}
use Rattle.addresses.specs.Listeners.{listeners_after, report_due}
use Rattle.addresses.specs.Seating.{Hears, SeatBook, seats_left}
use Rattle.seats.specs.declared.seat.Whose.{Whose}
use Rattle.seats.specs.declared.seat.Whose.TheVariants.{Clients, Ours, Others}
use Rattle.desk_calls.specs.DeskCalls.{source_of}
use Rattle.policy.specs.RateRequests.{is_due}
use Rattle.ports.specs.declared.feed.Received.{Received}
use Rattle.ports.specs.declared.feed.Received.TheVariants.{Nothing as Silence, Datagram, Select as Selection, Stop as Stopping}
use Rattle.udp.specs.Policies.{far_of, ruling_of}

-- it is so of what is let in, and nothing failed
abbrev pub IfLetIn : Result Admitted ReceiveFault → (Admitted → Type 0) → Type 0
IfLetIn (Ok admitted) P = P admitted
IfLetIn (Err fault) P = ⊥

-- what peers wish
abbrev pub is_wish : Result Admitted ReceiveFault → Bool
is_wish (Ok Nothing) = false
is_wish (Ok Taking) = false
is_wish (Ok (Select leg on)) = true
is_wish (Ok Stop) = true
is_wish (Err fault) = false

-- a wish of a peer, as it is let in
abbrev pub wish_in : Received → Option Admitted
wish_in (Selection leg on) = Some (Select leg on)
wish_in Stopping = Some Stop
wish_in Silence = None
wish_in (Datagram endpoint size) = None

-- What peers wish is let in at once, and nothing else changes.
pub record LetsWish (came : Came) (h k : Hearing) : Type 0 where
  pub wish : is_wish came.admitted ≡ true
  pub stays : k ≡ h

-- Of who began anew the packets are heard that were judged before: the far one, and then the one that followed it, which is taken in.
pub record HearsAnew (anew : Anew) (view : RoomView) (h k : Hearing) (moment : ℕ) (admitted : Admitted) : Type 0 where
  pub sent : IfTaken (Ok admitted) (k.kept.sent ≡ sent_by view.links.now anew.endpoint moment)
  pub packet : anew.is_far_heard ≡ true → anew.from ≤ anew.to → anew.to ≤ length h.kept.buffer.items
      → TakesIn (sent_by view.links.now anew.endpoint moment) h.kept.buffer.items (ruling_of h.policies) view
      anew.from anew.to k admitted
  pub far : anew.is_far_heard ≡ false → is_there (far_of h.policies.held_packets anew.endpoint) ≡ true
      → HearsFar (sent_by view.links.now anew.endpoint moment) h k view admitted
  pub none : anew.is_far_heard ≡ false → is_there (far_of h.policies.held_packets anew.endpoint) ≡ false
      → admitted ≡ Nothing
  pub next : k.anew ≡ anew_after anew
  pub rest : k.rest ≡ h.rest

-- What is left of a datagram is heard.
pub record HearsLeft (rest : Leftover) (unit : Bearings) (view : RoomView) (h k : Hearing) (moment : ℕ) (admitted : Admitted) : Type 0 where
  pub heard : rest.from ≤ rest.to → rest.to ≤ length h.kept.buffer.items
      → HearsRest unit view h k moment rest admitted

-- A datagram that came is heard: so many bytes, from this address.
pub record HearsCame (bearings : Who → Bearings) (view : RoomView) (filled k : Hearing) (moment : ℕ)
    (admitted : Result Admitted ReceiveFault) : Type 0 where
  pub address : SocketAddr
  pub size : ℕ
  pub heard : IfLetIn admitted (λ a. HearsDatagram (bearings filled.who) view filled k moment
      (record { address = address; from = 0; to = size }) a)

-- Who said goodbye in what was let in may come under another name.
pub record LetsGo (known later : SeatBook) (k : Hearing) (admitted : Admitted) : Type 0 where
  pub goodbye : admitted ≡ Taking → has_left k.kept ≡ true → later ≡ seats_left known k.kept.sent.endpoint
  pub stays : (admitted ≡ Taking → has_left k.kept ≡ true → ⊥) → later ≡ known

-- What is heard once names are exchanged in what came: of a client's datagram it, and then who said goodbye in it is let go; of nobody's nothing.
abbrev pub IsHeardIf : Whose → (Who → Bearings) → RoomView → Hearing → Hearing → SeatBook → SeatBook → ℕ → Leftover → Admitted
    → Type 0
IsHeardIf Clients bearings view h k known later moment whole admitted =
    HearsDatagram (bearings h.who) view h k moment whole admitted × LetsGo known later k admitted
IsHeardIf Ours bearings view h k known later moment whole admitted =
    (admitted ≡ Nothing) × (k ≡ h) × (later ≡ known)
IsHeardIf Others bearings view h k known later moment whole admitted =
    (admitted ≡ Nothing) × (k ≡ h) × (later ≡ known)

-- A datagram came, all of these bytes, at this moment: the names of its client are exchanged in it, if it came from the address of a seat whose client's
-- names are learned; and what is heard is what it says then.
pub record HearsExchanged (same : SocketAddr → SocketAddr → Bool) (bearings : Who → Bearings) (view : RoomView) (h k : Hearing)
    (known later : SeatBook) (moment : ℕ) (whole : Leftover) (admitted : Admitted) : Type 0 where
  pub between : Hearing
  pub seats : SeatBook
  pub whose : Whose
  pub exchanges : Hears same known seats whole.address (packets_in h.kept whole) (packets_in between.kept whole) moment whose
  pub who : between.who ≡ h.who
  pub policies : between.policies ≡ h.policies
  pub heard : IsHeardIf whose bearings view between k seats later moment whole admitted

-- nothing is let in
abbrev pub IsSilence : Result Admitted ReceiveFault → Type 0
IsSilence (Ok Nothing) = ⊤
IsSilence (Ok Taking) = ⊥
IsSilence (Ok (Select leg on)) = ⊥
IsSilence (Ok Stop) = ⊥
IsSilence (Err fault) = ⊤

-- The sockets were asked, once their bytes were kept: a datagram that came is heard, else nothing is let in and nothing changes.
pub record Waits (bearings : Who → Bearings) (view : RoomView) (h k : Hearing) (moment : ℕ)
    (admitted : Result Admitted ReceiveFault) : Type 0 where
  pub filled : Hearing
  pub who : filled.who ≡ h.who
  pub policies : filled.policies ≡ h.policies
  pub heard : HearsCame bearings view filled k moment admitted ⊎ (IsSilence admitted × (k ≡ filled))

-- ---- what is heard if nothing is left of what came before

-- If anything may be heard that was asked for before, it was looked for at the moment that was told, and was found or not; else nothing changes.
pub record HearsBefore (h k : Hearing) (view : RoomView) (was told : ℕ) (found : Bool) : Type 0 where
  pub due : is_due h.policies.requests ≡ true → AsksAgain h k view told found
  pub idle : is_due h.policies.requests ≡ false → (k ≡ h) × (told ≡ was) × (found ≡ false)

-- At this moment a report was due in the name of an endpoint that only listens, and says that it is there and no more.
pub record Reports (h k : Hearing) (view : RoomView) (told : ℕ) (came : Came) : Type 0 where
  pub taken : came.admitted ≡ Ok Taking
  pub due : report_due h.who.listeners told ≡ Some k.kept.sent.endpoint
  pub sent : k.kept.sent ≡ sent_by view.links.now k.kept.sent.endpoint came.moment
  pub says : IsSpokenBy (source_of view.links.now k.kept.sent.endpoint) [] k.kept.reading

-- None was due, and the sockets were asked.
pub record GoesOn (bearings : Who → Bearings) (view : RoomView) (h k : Hearing) (told : ℕ) (came : Came) : Type 0 where
  pub turned : Hearing
  pub none : (endpoint : ℕ) → endpoint < 65536 → report_due h.who.listeners told ≡ Some endpoint → ⊥
  pub turn : address_book_of turned.who
      ≡ record (address_book_of h.who) { listeners = listeners_after h.who.listeners told }
  pub policies : turned.policies ≡ h.policies
  pub waits : Waits bearings view turned k came.moment came.admitted

abbrev pub HearsElse : Bool → (Who → Bearings) → RoomView → Hearing → Hearing → ℕ → Came → Type 0
HearsElse true bearings view h k told came =
    (came ≡ record { moment = told; admitted = Ok Taking }) × (k ≡ h)
HearsElse false bearings view h k told came =
    Reports h k view told came ⊎ GoesOn bearings view h k told came

-- What was asked for before is heard, if any of it is found; else a report that is due; else what comes to the sockets.
pub record HearsMore (bearings : Who → Bearings) (view : RoomView) (h k : Hearing) (was : ℕ) (came : Came) : Type 0 where
  pub between : Hearing
  pub told : ℕ
  pub found : Bool
  pub before : HearsBefore h between view was told found
  pub then : HearsElse found bearings view between k told came
