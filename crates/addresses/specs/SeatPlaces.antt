-- Where the seats are whose clients' SSRCs are learned.
use Rattle.std.specs.Prelude.{ℕ, List, [], ◌∷◌, if◌then◌else◌}
use Rattle.std.specs.List.{enumerate_from, flat_map}
use Rattle.std.specs.declared.net.socket_addr.SocketAddr.{SocketAddr}
use Rattle.addresses.specs.AddressBook.{endpoint_at}
use Rattle.addresses.specs.declared.clients.Client.{Client}
use Rattle.addresses.specs.declared.clients.Location.{Location}
use Rattle.addresses.specs.declared.clients.Location.TheVariants.{Fixed, Learned}

-- the addresses of a client whose name is learned
abbrev pub addresses_of_seat : ℕ → Location → List (SocketAddr × ℕ)
addresses_of_seat endpoint (Fixed places) = (places.media, endpoint) ∷ ((places.rtcp, endpoint) ∷ [])
addresses_of_seat endpoint (Learned within) = []

abbrev pub addresses_at : ℕ → Client → List (SocketAddr × ℕ)
addresses_at endpoint client =
    if client.learns_ssrc then addresses_of_seat endpoint client.location else []

abbrev pub numbered_addresses : ℕ × Client → List (SocketAddr × ℕ)
numbered_addresses e = addresses_at (endpoint_at e.0) e.1

-- where those seats are whose clients' names are learned
abbrev pub seats_at : List Client → List (SocketAddr × ℕ)
seats_at clients = flat_map numbered_addresses (enumerate_from 0 clients)
