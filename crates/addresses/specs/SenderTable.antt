-- Who sent a datagram.
use Rattle.std.specs.Prelude.{ℕ, Bool, true, false, List, map, Option, None, Some, length, if◌then◌else◌}
use Rattle.std.specs.declared.net.socket_addr.SocketAddr.{SocketAddr}
use Rattle.addresses.specs.declared.endpoints_by_key.Occupants.{Occupants}
use Rattle.addresses.specs.declared.endpoints_by_key.Occupants.TheVariants.{Alone, Several}
use Rattle.addresses.specs.declared.sender_table.SourceAddress.{SourceAddress}
use Rattle.rtcp_compound.specs.Mux.{is_rtcp}
use Rattle.datagram.specs.Naming.{heard_size}
use Rattle.addresses.specs.EndpointsByKey.{occupants_of}

abbrev pub addresses_of : List (SourceAddress × ℕ) → List (SocketAddr × ℕ)
addresses_of entries = map (λ entry. (entry.0.address, entry.1)) entries

-- the endpoint, if it is the only one
abbrev pub alone_in : Option Occupants → Option ℕ
alone_in None = None
alone_in (Some (Alone endpoint)) = Some endpoint
alone_in (Some Several) = None

-- the endpoint with this address and this source
abbrev pub endpoint_named : (SourceAddress → SourceAddress → Bool) → List (SourceAddress × ℕ) → SocketAddr → Option ℕ
    → Option ℕ
endpoint_named same entries address None = None
endpoint_named same entries address (Some ssrc) =
    alone_in (occupants_of same entries (record { address = address; ssrc = ssrc }))

abbrev pub or_other : Option ℕ → Option ℕ → Option ℕ
or_other None other = other
or_other (Some endpoint) other = Some endpoint

-- the endpoint with this address and this source; else the one that is alone at the address
abbrev pub sender_of : (SourceAddress → SourceAddress → Bool) → (SocketAddr → SocketAddr → Bool)
    → List (SourceAddress × ℕ) → SocketAddr → Option ℕ → Option ℕ
sender_of same same_address entries address source =
    or_other (endpoint_named same entries address source)
    (alone_in (occupants_of same_address (addresses_of entries) address))

abbrev pub is_shared : Option Occupants → Bool
is_shared None = false
is_shared (Some (Alone endpoint)) = false
is_shared (Some Several) = true

-- How many bytes at the front of a datagram are heard at once: of RTCP from an address that several endpoints share its first
-- packet, else all.
abbrev pub front_length : (SocketAddr → SocketAddr → Bool) → List (SourceAddress × ℕ) → SocketAddr → List ℕ
    → ℕ
front_length same entries address datagram =
    if is_rtcp datagram
    then (if is_shared (occupants_of same (addresses_of entries) address)
    then heard_size datagram else length datagram)
    else length datagram
