-- Who is known of a unit's endpoints, before anything came and as it comes.
use Rattle.std.specs.Prelude.{◌≡◌, ◌⊎◌, ◌&&◌, ℕ, ◌/◌, Bool, false, IsTrue, List, map, Option, None, Some, if◌then◌else◌}
use Rattle.std.specs.Option.{option_eq}
use Rattle.std.specs.declared.net.ip_addr.IpAddr.{IpAddr}
use Rattle.std.specs.declared.net.socket_addr.SocketAddr.{SocketAddr}
use Rattle.tmmbr_tuple.specs.declared.ssrc.Ssrc.{Ssrc}
use Rattle.addresses.specs.declared.learners.Arrived.{Arrived}
use Rattle.addresses.specs.declared.learners.Learner.{Learner}
use Rattle.addresses.specs.declared.learned_address.Kind.{Kind}
use Rattle.addresses.specs.declared.learned_address.Kind.TheVariants.{Rtp, Rtcp}
use Rattle.addresses.specs.declared.learned_address.LearnedAddress.{LearnedAddress}
use Rattle.addresses.specs.declared.sender_table.SourceAddress.{SourceAddress}
use Rattle.addresses.specs.Learners.{LearnersState, after_word, claim_of, learner_at, with_seat}
use Rattle.addresses.specs.Listeners.{ListenersState, after_hearing, new_listeners}
use Rattle.rtcp_compound.specs.Mux.{is_rtcp}
use Rattle.datagram.specs.Naming.{source_named}
use Rattle.udp.specs.declared.who.Who.{Who}
use Rattle.settings.specs.Settings.{Configuration}
use Rattle.addresses.specs.declared.clients.Client.{Client}
use Rattle.addresses.specs.declared.clients.Listening.{Listening}
use Rattle.addresses.specs.Clients.{IsReachable}
use Rattle.addresses.specs.AddressBook.{learners_of, senders_of}

-- whose address is learned, before anything came
abbrev pub first_learners : Configuration → List Client → LearnersState
first_learners settings clients = learners_of settings.endpoints clients settings.timeout_ms

-- who is known by an address, before anything came
abbrev pub first_senders : Configuration → List Client → List (SourceAddress × ℕ)
first_senders settings clients =
    senders_of settings.endpoints clients (first_learners settings clients)

-- who only listens, with a round of reports twice in the time after which who says nothing is gone
abbrev pub first_listeners : Configuration → List Client → ListenersState
first_listeners settings clients =
    new_listeners (map (λ client. client.receive_only) clients) (settings.timeout_ms / 2)

-- ---- what is known, and what never changes

-- who is known by an address, whose address is learned, and who only listens
pub record AddressBook : Type 0 where
  pub senders : List (SourceAddress × ℕ)
  pub learners : LearnersState
  pub listeners : ListenersState

-- How sources, addresses and hosts are compared; the source and the client of each endpoint, by its number, and where the unit listens.
pub record Setup : Type 0 where
  pub same_source : ℕ → ℕ → Bool
  pub same : SocketAddr → SocketAddr → Bool
  pub same_host : IpAddr → IpAddr → Bool
  pub sources : List Ssrc
  pub clients : List Client
  pub listening : Listening

abbrev pub address_book_of : Who → AddressBook
address_book_of a = record { senders = a.senders; learners = a.learners; listeners = a.listeners }

abbrev pub setup_of : (ℕ → ℕ → Bool) → (SocketAddr → SocketAddr → Bool)
    → (IpAddr → IpAddr → Bool) → Who → Setup
setup_of same_source same same_host a = record {
  same_source = same_source;
  same = same;
  same_host = same_host;
  sources = a.sources.now;
  clients = a.clients.now;
  listening = a.listening;
}

-- ---- what is learned of a datagram that came

-- RTCP is of a kind of its own if it has an address of its own (RFC 3550, section 11)
abbrev pub kind_heard : Option SocketAddr → List ℕ → Kind
kind_heard None datagram = Rtp
kind_heard (Some rtcp) datagram = if is_rtcp datagram then Rtcp else Rtp

-- what a datagram that came from this address at this moment says of who sent it
abbrev pub arrived_by : Option SocketAddr → SocketAddr → List ℕ → ℕ → Arrived
arrived_by rtcp from datagram moment = record {
  source = source_named datagram;
  kind = kind_heard rtcp datagram;
  from = from;
  moment = moment;
}

abbrev pub is_same_place : (SocketAddr → SocketAddr → Bool) → LearnedAddress → LearnedAddress → Bool
is_same_place same seat other = option_eq same seat.rtp other.rtp && option_eq same seat.rtcp other.rtcp

-- An address is learned: the endpoint whose source the datagram of this moment names may take this seat, and has it from then on. Either
-- it has the addresses that it had, or the unit can send to this one, and who is known by an address is who is by the seats from then on.
pub record Learns (unit : Setup) (from : SocketAddr) (datagram : List ℕ) (moment : ℕ)
    (known later : AddressBook) : Type 0 where
  pub endpoint : ℕ
  pub seat : LearnedAddress
  pub claims : claim_of unit.same_source unit.same unit.same_host known.learners
      (arrived_by unit.listening.rtcp from datagram moment) ≡ Some (endpoint, seat)
  pub learner : Learner
  pub before : learner_at known.learners endpoint ≡ Some learner
  pub sits : later.learners ≡ with_seat known.learners endpoint seat
  pub senders : (IsTrue (is_same_place unit.same learner.seat seat) × (later.senders ≡ known.senders))
      ⊎ (IsReachable unit.same unit.listening from
      × (later.senders ≡ senders_of unit.sources unit.clients later.learners))
  pub listeners : later.listeners ≡ known.listeners

-- Nothing is learned: no endpoint may take a seat by the datagram of this moment that has the addresses which it had.
pub record LearnsNothing (unit : Setup) (from : SocketAddr) (datagram : List ℕ) (moment : ℕ)
    (known later : AddressBook) : Type 0 where
  pub moves : (endpoint : ℕ) (seat : LearnedAddress) (learner : Learner)
      → claim_of unit.same_source unit.same unit.same_host known.learners
      (arrived_by unit.listening.rtcp from datagram moment) ≡ Some (endpoint, seat)
      → learner_at known.learners endpoint ≡ Some learner
      → is_same_place unit.same learner.seat seat ≡ false
  pub all : later ≡ known

-- it is learned, or nothing is
abbrev pub MayLearn : Setup → SocketAddr → List ℕ → ℕ → AddressBook → AddressBook → Type 0
MayLearn unit from datagram moment known later =
    LearnsNothing unit from datagram moment known later
    ⊎ Learns unit from datagram moment known later

-- ---- who was heard

-- An endpoint was heard at this moment, and said goodbye or didn't. If its address is learned, its seat is kept from then on, or is
-- free; if it only listens, it is present, or has left (RFC 3550, section 6.6). Nothing else changes.
abbrev pub after_note : AddressBook → ℕ → ℕ → Bool → AddressBook
after_note known endpoint moment is_goodbye = record {
  senders = known.senders;
  learners = after_word known.learners endpoint moment is_goodbye;
  listeners = after_hearing known.listeners endpoint is_goodbye;
}
