-- Where seats are, client by client.
use Rattle.std.proofs.Common.{◌≡◌, ◌∙◌, ◌||◌, ◌⊎◌, ℕ, ◌+◌, ◌<◌, min, Bool, true, false, List, [], ◌∷◌, ◌++◌, length, drop, get_or, Option, Some, refl, ap, subst, sym}
use Rattle.std.specs.Prelude.{if◌then◌else◌}
use Rattle.std.specs.List.{enumerate_from, flat_map, list_any}
use Rattle.std.specs.declared.net.socket_addr.SocketAddr.{SocketAddr}
use Rattle.addresses.specs.AddressBook.{endpoint_at}
use Rattle.seats.specs.Exchange.{IsHeardAs}
use Rattle.seats.specs.Seat.{Arrives}
use Rattle.seats.specs.declared.seat.Arrival.{Arrival}
use Rattle.seats.specs.declared.seat.Seat.{Seat}
use Rattle.seats.specs.declared.seat.Whose.TheVariants.{Clients}
use Rattle.addresses.specs.Seating.{HearsAt, SeatBook, seats_with}
use Rattle.addresses.specs.SeatPlaces.{addresses_at, addresses_of_seat, numbered_addresses, seats_at}
use Rattle.addresses.specs.declared.clients.Client.{Client}
use Rattle.addresses.proofs.AddressBookLemmas.{flat_passed}

or_false : (a b : Bool) → (a || b) ≡ false → (a ≡ false) × (b ≡ false)
or_false true b e = cc
or_false false b e = (refl, e)

-- where those of the clients from here on are, put after these, are all
abbrev pub PlacesLeft : List Client → ℕ → List (SocketAddr × ℕ) → Type 0
PlacesLeft clients i before = before ++ flat_map numbered_addresses (enumerate_from i (drop i clients)) ≡ seats_at clients

pub places_passed : (clients : List Client) (i : ℕ) (d : Client) (before after : List (SocketAddr × ℕ)) (endpoint : ℕ) → endpoint ≡ endpoint_at i
    → after ≡ before ++ addresses_at endpoint (get_or clients i d) → i < length clients → PlacesLeft clients i before → PlacesLeft clients (i + 1) after
places_passed clients i d before after endpoint number is below left =
    flat_passed numbered_addresses i clients d before after (seats_at clients) below
    (is ∙ ap (λ (n : ℕ). before ++ addresses_at n (get_or clients i d)) number) left

-- if no client's name is learned there are none
pub none_at : (k : ℕ) (clients : List Client) → list_any (λ client. client.learns_ssrc) clients ≡ false
    → flat_map numbered_addresses (enumerate_from k clients) ≡ []
none_at k [] none = refl
none_at k (client ∷ clients) none =
    let parts = or_false client.learns_ssrc (list_any (λ c. c.learns_ssrc) clients) none in
    ap (λ (b : Bool). (if b then addresses_of_seat (endpoint_at k) client.location else []) ++ flat_map numbered_addresses (enumerate_from (k + 1) clients)) parts.0
    ∙ none_at (k + 1) clients parts.1

-- ---- a datagram that came

pub hears_at : (known later : SeatBook) (endpoint : ℕ) (found : Option Seat) (seat : Seat) (before after : List ℕ) (moment until_ms : ℕ)
    (arrival : Arrival) (kept : Seat)
    → found ≡ Some seat → until_ms ≡ min (moment + known.keep_ms) 18446744073709551615
    → Arrives known.unit seat before moment until_ms arrival
    → (kept ≡ arrival.seat) ⊎ (kept ≡ seat) → (arrival.seat.names ≡ seat.names → kept ≡ arrival.seat)
    → later ≡ seats_with known endpoint kept
    → (arrival.whose ≡ Clients → IsHeardAs kept.names before after) → ((arrival.whose ≡ Clients → ⊥) → after ≡ before)
    → HearsAt known later endpoint found before after moment arrival.whose
hears_at known later endpoint found seat before after moment until_ms arrival kept is until arrives either same sits heard nobodys =
    subst (λ o. HearsAt known later endpoint o before after moment arrival.whose) (sym is) (record {
      arrival = arrival;
      arrives = subst (λ u. Arrives known.unit seat before moment u arrival) until arrives;
      is = refl;
      kept = kept;
      either = either;
      same = same;
      sits = sits;
      heard = heard;
      nobodys = nobodys;
    })
