-- Seats keep the names of their endpoints, whatever comes.
use Rattle.std.proofs.Common.{◌≡◌, ◌∙◌, ◌⊎◌, ◌&&◌, inl, inr, ℕ, Bool, true, false, not, List, [], ◌∷◌, map, Option, None, Some, option_map, slice_get, refl, sym, ap, subst}
use Rattle.std.specs.Prelude.{if◌then◌else◌}
use Rattle.std.proofs.lemmas.Option.{get_or_from_slice_get, slice_get-map}
use Rattle.std.proofs.Math.Seq.{map-set_same}
use Rattle.std.specs.declared.net.socket_addr.SocketAddr.{SocketAddr}
use Rattle.datagram.specs.Naming.{source_named}
use Rattle.rtcp_compound.specs.Mux.{is_rtcp}
use Rattle.settings.specs.Settings.{Configuration}
use Rattle.tmmbr_tuple.specs.declared.ssrc.Ssrc.{Ssrc}
use Rattle.seats.specs.Exchange.{IsHeardAs}
use Rattle.seats.specs.Seat.{Arrives, ArrivesFrom, SaysFrom, after_ask, after_control, after_goodbye, after_packet, after_report, is_asker, vacant_seat, whose_control, whose_packet}
use Rattle.seats.specs.Units.{is_free}
use Rattle.seats.specs.declared.seat.Arrival.{Arrival}
use Rattle.seats.specs.declared.seat.Seat.{Seat}
use Rattle.seats.specs.declared.seat.Whose.{Whose}
use Rattle.seats.specs.declared.seat.Whose.TheVariants.{Clients, Ours, Others}
use Rattle.addresses.specs.EndpointsByKey.{occupants_of}
use Rattle.addresses.specs.Seating.{AreNamed, Hears, HearsAt, HearsFrom, HearsSeat, IsHeardUnder, SeatBook, first_seats, seats_after, seats_left, seats_with}
use Rattle.addresses.specs.declared.clients.Client.{Client}
use Rattle.addresses.specs.declared.endpoints_by_key.Occupants.{Occupants}
use Rattle.addresses.specs.declared.endpoints_by_key.Occupants.TheVariants.{Alone, Several}

-- ---- what a datagram says of its client's names changes no seat's

abbrev IsIn : Ssrc → Seat → Type 0
IsIn name s = s.names.seat ≡ name

either_in : (b : Bool) (s t : Seat) (name : Ssrc) → IsIn name s → IsIn name t → IsIn name (if b then s else t)
either_in true s t name one other = one
either_in false s t name one other = other

packet_in : (s : Seat) (name until : ℕ) (whose : Whose) → IsIn s.names.seat (after_packet s name until whose)
packet_in s name until Clients = refl
packet_in s name until Ours = refl
packet_in s name until Others = refl

report_in : (c : Configuration) (s : Seat) (sender : Option Ssrc) (moment until : ℕ) → IsIn s.names.seat (after_report c s sender moment until)
report_in c s None moment until = refl
report_in c s (Some sender) moment until = packet_in s sender.0 until (whose_packet c s sender.0 moment)

ask_in : (c : Configuration) (s : Seat) (asker : Option Ssrc) → IsIn s.names.seat (after_ask c s asker)
ask_in c s None = refl
ask_in c s (Some asker) =
    either_in (not (is_asker s asker.0) && not (is_free c s.names.seat.0 asker.0)) s _ s.names.seat refl refl

says_in : (c : Configuration) (s : Seat) (datagram : List ℕ) (name moment until : ℕ) (a : Arrival) (b : Bool) → is_rtcp datagram ≡ b
    → SaysFrom c s datagram name moment until a → IsIn s.names.seat a.seat
says_in c s datagram name moment until a true is says =
    let found = says.0 is in
    ap (λ (x : Arrival). x.seat.names.seat) found.2
    ∙ (elim (whose_control c s name) as (λ w. IsIn s.names.seat (after_control c s found.0 moment until w)) [
      | Clients ↦ ask_in c (after_report c s found.0.sends moment until) found.0.asks ∙ report_in c s found.0.sends moment until
      | Ours ↦ refl
      | Others ↦ refl
    ])
says_in c s datagram name moment until a false is says =
    ap (λ (x : Arrival). x.seat.names.seat) (says.1 is) ∙ packet_in s name until (whose_packet c s name moment)

from_in : (c : Configuration) (s : Seat) (datagram : List ℕ) (source : Option ℕ) (moment until : ℕ) (a : Arrival)
    → ArrivesFrom c s datagram source moment until a → IsIn s.names.seat a.seat
from_in c s datagram None moment until a is = ap (λ (x : Arrival). x.seat.names.seat) is
from_in c s datagram (Some name) moment until a says = says_in c s datagram name moment until a (is_rtcp datagram) refl says

kept_in : (s kept after : Seat) → IsIn s.names.seat after → (kept ≡ after) ⊎ (kept ≡ s) → IsIn s.names.seat kept
kept_in s kept after stays either =
    elim either [ inl e ↦ ap (λ (x : Seat). x.names.seat) e ∙ stays | inr e ↦ ap (λ (x : Seat). x.names.seat) e ]

-- ---- so each endpoint's seat has its name

pub vacant_named : (names : List Ssrc) → map (λ seat. seat.names.seat) (map vacant_seat names) ≡ names
vacant_named [] = refl
vacant_named (name ∷ names) = ap (λ (xs : List Ssrc). name ∷ xs) (vacant_named names)

with_named : (known : SeatBook) (endpoint : ℕ) (before after : Seat) → slice_get known.seats endpoint ≡ Some before → IsIn before.names.seat after
    → AreNamed known → AreNamed (seats_with known endpoint after)
with_named known endpoint before after found stays named =
    map-set_same (λ (seat : Seat). seat.names.seat) known.seats endpoint after before
    (stays ∙ ap (λ (seat : Seat). seat.names.seat) (sym (get_or_from_slice_get known.seats endpoint before before found))) ∙ named

pub first_named : (c : Configuration) (clients : List Client) → AreNamed (first_seats c clients)
first_named c clients = vacant_named c.endpoints

after_named : (known : SeatBook) (endpoint : ℕ) (found : Option Seat) → slice_get known.seats endpoint ≡ found → AreNamed known
    → AreNamed (seats_after known endpoint found)
after_named known endpoint None is named = named
after_named known endpoint (Some seat) is named = with_named known endpoint seat (after_goodbye seat) is refl named

pub left_named : (known : SeatBook) (endpoint : ℕ) → AreNamed known → AreNamed (seats_left known endpoint)
left_named known endpoint named = after_named known endpoint (slice_get known.seats endpoint) refl named

-- ---- and under that it is heard

abbrev IsHeardWell : (SocketAddr → SocketAddr → Bool) → SeatBook → SeatBook → SocketAddr → List ℕ → List ℕ → Type 0
IsHeardWell same known later from before after =
    AreNamed later × ((after ≡ before) ⊎ IsHeardUnder same known from before after)

passes_well : (same : SocketAddr → SocketAddr → Bool) (known later : SeatBook) (from : SocketAddr) (before after : List ℕ)
    → later ≡ known → after ≡ before → AreNamed known → IsHeardWell same known later from before after
passes_well same known later from before after stays is named = (subst AreNamed (sym stays) named, inl is)

own_of : (known : SeatBook) (endpoint : ℕ) (seat : Seat) → AreNamed known → slice_get known.seats endpoint ≡ Some seat
    → slice_get known.unit.endpoints endpoint ≡ Some seat.names.seat
own_of known endpoint seat named found =
    ap (λ (names : List Ssrc). slice_get names endpoint) (sym named)
    ∙ slice_get-map (λ (s : Seat). s.names.seat) known.seats endpoint ∙ ap (option_map (λ (s : Seat). s.names.seat)) found

under : (same : SocketAddr → SocketAddr → Bool) (known : SeatBook) (from : SocketAddr) (endpoint : ℕ) (seat kept : Seat) (before after : List ℕ)
    (whose : Whose) → occupants_of same known.places from ≡ Some (Alone endpoint) → slice_get known.seats endpoint ≡ Some seat → AreNamed known
    → IsIn seat.names.seat kept → (whose ≡ Clients → IsHeardAs kept.names before after) → ((whose ≡ Clients → ⊥) → after ≡ before)
    → (after ≡ before) ⊎ IsHeardUnder same known from before after
under same known from endpoint seat kept before after Clients there found named stays heard nobodys = inr (record {
  endpoint = endpoint;
  names = kept.names;
  there = there;
  own = own_of known endpoint seat named found ∙ ap Some (sym stays);
  heard = heard refl;
})
under same known from endpoint seat kept before after Ours there found named stays heard nobodys = inl (nobodys (λ e. absurd (cc)))
under same known from endpoint seat kept before after Others there found named stays heard nobodys = inl (nobodys (λ e. absurd (cc)))

seat_well : (same : SocketAddr → SocketAddr → Bool) (known later : SeatBook) (from : SocketAddr) (endpoint : ℕ) (seat : Seat) (before after : List ℕ)
    (moment : ℕ) (whose : Whose) → occupants_of same known.places from ≡ Some (Alone endpoint) → slice_get known.seats endpoint ≡ Some seat
    → AreNamed known → HearsSeat known later endpoint seat before after moment whose → IsHeardWell same known later from before after
seat_well same known later from endpoint seat before after moment whose there found named hears =
    let stays = kept_in seat hears.kept hears.arrival.seat (from_in known.unit seat before (source_named before) moment _ hears.arrival hears.arrives) hears.either in (
      subst AreNamed (sym hears.sits) (with_named known endpoint seat hears.kept found stays named),
      under same known from endpoint seat hears.kept before after whose there found named stays hears.heard hears.nobodys,
    )

at_well : (same : SocketAddr → SocketAddr → Bool) (known later : SeatBook) (from : SocketAddr) (endpoint : ℕ) (found : Option Seat)
    (before after : List ℕ) (moment : ℕ) (whose : Whose) → occupants_of same known.places from ≡ Some (Alone endpoint)
    → slice_get known.seats endpoint ≡ found → AreNamed known → HearsAt known later endpoint found before after moment whose
    → IsHeardWell same known later from before after
at_well same known later from endpoint None before after moment whose there is named hears =
    passes_well same known later from before after hears.0 hears.1 named
at_well same known later from endpoint (Some seat) before after moment whose there is named hears =
    seat_well same known later from endpoint seat before after moment whose there is named hears

from_well : (same : SocketAddr → SocketAddr → Bool) (known later : SeatBook) (from : SocketAddr) (there : Option Occupants) (before after : List ℕ)
    (moment : ℕ) (whose : Whose) → occupants_of same known.places from ≡ there → AreNamed known
    → HearsFrom known later there before after moment whose → IsHeardWell same known later from before after
from_well same known later from None before after moment whose is named hears =
    passes_well same known later from before after hears.0 hears.1 named
from_well same known later from (Some Several) before after moment whose is named hears =
    passes_well same known later from before after hears.0 hears.1 named
from_well same known later from (Some (Alone endpoint)) before after moment whose is named hears =
    at_well same known later from endpoint (slice_get known.seats endpoint) before after moment whose is refl named hears

pub hears_under : (same : SocketAddr → SocketAddr → Bool) (known later : SeatBook) (from : SocketAddr) (before after : List ℕ) (moment : ℕ)
    (whose : Whose) → AreNamed known → Hears same known later from before after moment whose
    → AreNamed later × ((after ≡ before) ⊎ IsHeardUnder same known from before after)
hears_under same known later from before after moment whose named hears =
    from_well same known later from (occupants_of same known.places from) before after moment whose refl named hears
