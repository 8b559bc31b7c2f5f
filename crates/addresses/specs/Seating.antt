-- The seats whose clients' SSRCs are learned, by the addresses of these clients.
use Rattle.std.specs.Prelude.{◌≡◌, ◌⊎◌, ◌+◌, ℕ, Bool, min, List, map, slice_get, slice_set, Option, None, Some}
use Rattle.std.specs.declared.net.socket_addr.SocketAddr.{SocketAddr}
use Rattle.seats.specs.Exchange.{IsHeardAs}
use Rattle.seats.specs.declared.names.Names.{Names}
use Rattle.seats.specs.Seat.{Arrives, after_goodbye, vacant_seat}
use Rattle.seats.specs.declared.seat.Arrival.{Arrival}
use Rattle.seats.specs.declared.seat.Seat.{Seat}
use Rattle.seats.specs.declared.seat.Whose.{Whose}
use Rattle.seats.specs.declared.seat.Whose.TheVariants.{Clients}
use Rattle.settings.specs.Settings.{Configuration}
use Rattle.addresses.specs.AddressBook.{kept_ms}
use Rattle.addresses.specs.EndpointsByKey.{occupants_of}
use Rattle.addresses.specs.SeatPlaces.{seats_at}
use Rattle.addresses.specs.declared.clients.Client.{Client}
use Rattle.addresses.specs.declared.endpoints_by_key.Occupants.{Occupants}
use Rattle.addresses.specs.declared.endpoints_by_key.Occupants.TheVariants.{Alone, Several}
use Rattle.addresses.specs.declared.seating.Seating.{Seating}

-- ---- which seats there are

-- what is known of a unit's seats: the seat of each endpoint, and so long its client keeps its name
pub record SeatBook : Type 0 where
  pub unit : Configuration
  pub places : List (SocketAddr × ℕ)
  pub seats : List Seat
  pub keep_ms : ℕ

abbrev pub seats_of : Seating → SeatBook
seats_of s = record { unit = s.settings.now; places = s.places; seats = s.seats.items; keep_ms = s.keep_ms }

-- before anybody was heard
abbrev pub first_seats : Configuration → List Client → SeatBook
first_seats c clients = record {
  unit = c;
  places = seats_at clients;
  seats = map vacant_seat c.endpoints;
  keep_ms = kept_ms c.timeout_ms;
}

abbrev pub seats_with : SeatBook → ℕ → Seat → SeatBook
seats_with s endpoint seat = record s { seats = slice_set s.seats endpoint seat }

-- the client of a seat said goodbye
abbrev pub seats_after : SeatBook → ℕ → Option Seat → SeatBook
seats_after s endpoint None = s
seats_after s endpoint (Some seat) = seats_with s endpoint (after_goodbye seat)

abbrev pub seats_left : SeatBook → ℕ → SeatBook
seats_left s endpoint = seats_after s endpoint (slice_get s.seats endpoint)

-- ---- a datagram that came

-- A datagram came from the address of this seat: what it says of its client's names, and whose it is. If it is the client's, it is heard under the
-- seat's name; else it stays as it is. What it says of names is put off while a thread that sends looks at them.
pub record HearsSeat (known later : SeatBook) (endpoint : ℕ) (seat : Seat) (before after : List ℕ) (moment : ℕ) (whose : Whose) : Type 0 where
  pub arrival : Arrival
  pub arrives : Arrives known.unit seat before moment (min (moment + known.keep_ms) 18446744073709551615) arrival
  pub is : whose ≡ arrival.whose
  pub kept : Seat
  pub either : (kept ≡ arrival.seat) ⊎ (kept ≡ seat)
  pub same : arrival.seat.names ≡ seat.names → kept ≡ arrival.seat
  pub sits : later ≡ seats_with known endpoint kept
  pub heard : whose ≡ Clients → IsHeardAs kept.names before after
  pub nobodys : (whose ≡ Clients → ⊥) → after ≡ before

-- it came from no seat's address, and stays as it is
abbrev pub Passes : SeatBook → SeatBook → List ℕ → List ℕ → Whose → Type 0
Passes known later before after whose = (later ≡ known) × (after ≡ before) × (whose ≡ Clients)

abbrev pub HearsAt : SeatBook → SeatBook → ℕ → Option Seat → List ℕ → List ℕ → ℕ → Whose → Type 0
HearsAt known later endpoint None before after moment whose = Passes known later before after whose
HearsAt known later endpoint (Some seat) before after moment whose =
    HearsSeat known later endpoint seat before after moment whose

abbrev pub HearsFrom : SeatBook → SeatBook → Option Occupants → List ℕ → List ℕ → ℕ → Whose → Type 0
HearsFrom known later None before after moment whose = Passes known later before after whose
HearsFrom known later (Some Several) before after moment whose = Passes known later before after whose
HearsFrom known later (Some (Alone endpoint)) before after moment whose =
    HearsAt known later endpoint (slice_get known.seats endpoint) before after moment whose

-- A datagram came from this address at this moment: whose it is, what is known of seats from then on, and what is heard of it.
abbrev pub Hears : (SocketAddr → SocketAddr → Bool) → SeatBook → SeatBook → SocketAddr → List ℕ → List ℕ → ℕ → Whose
    → Type 0
Hears same known later from before after moment whose =
    HearsFrom known later (occupants_of same known.places from) before after moment whose

-- ---- under whose name it is heard

-- each endpoint's seat has the endpoint's name
abbrev pub AreNamed : SeatBook → Type 0
AreNamed s = map (λ seat. seat.names.seat) s.seats ≡ s.unit.endpoints

-- What came from this address is heard under the name of the endpoint that alone is there, put for its client's, and under no other seat's.
pub record IsHeardUnder (same : SocketAddr → SocketAddr → Bool) (known : SeatBook) (from : SocketAddr) (before after : List ℕ) : Type 0 where
  pub endpoint : ℕ
  pub names : Names
  pub there : occupants_of same known.places from ≡ Some (Alone endpoint)
  pub own : slice_get known.unit.endpoints endpoint ≡ Some names.seat
  pub heard : IsHeardAs names before after
