-- The strangers who came last, the latest first.
use Rattle.std.specs.Prelude.{ℕ, ◌+◌, ◌-◌, ◌^◌, min, Bool, List, [], ◌∷◌, take, remove, slice_get, Option, None, Some, if◌then◌else◌}
use Rattle.std.specs.declared.net.socket_addr.SocketAddr.{SocketAddr}
use Rattle.addresses.specs.declared.latest.Stranger.{Stranger}
use Rattle.addresses.specs.declared.latest.TheConstants.{MAX_STRANGERS}

-- the place of an address among them; as many as there are if it isn't
abbrev pub place_in : (SocketAddr → SocketAddr → Bool) → List Stranger → SocketAddr → ℕ
place_in same [] address = 0
place_in same (s ∷ strangers) address =
    if same s.address address then 0 else 1 + place_in same strangers address

abbrev pub count_of : Option Stranger → ℕ
count_of None = 0
count_of (Some s) = s.count

abbrev pub counted_once_more : Option Stranger → SocketAddr → ℕ → Stranger
counted_once_more known address moment = record {
  address = address;
  count = min (count_of known + 1) (2 ^ 64 - 1);
  moment = moment;
}

-- one that is listed comes to the front; else it is listed, and no more than so many are
abbrev pub moved_up : Stranger → List Stranger → ℕ → Option Stranger → List Stranger
moved_up s strangers place None = take MAX_STRANGERS (s ∷ strangers)
moved_up s strangers place (Some known) = s ∷ remove strangers place

abbrev pub with_at : List Stranger → ℕ → SocketAddr → ℕ → List Stranger
with_at strangers place address moment =
    moved_up (counted_once_more (slice_get strangers place) address moment) strangers place
    (slice_get strangers place)

-- one more datagram came from this address
abbrev pub with_stranger : (SocketAddr → SocketAddr → Bool) → List Stranger → SocketAddr → ℕ → List Stranger
with_stranger same strangers address moment =
    with_at strangers (place_in same strangers address) address moment
