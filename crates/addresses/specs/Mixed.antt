-- What clients may not share, and formats of no listed payload type: faults behind all others.
use Rattle.std.specs.Prelude.{◌&&◌, ◌||◌, ℕ, nat_lt, Bool, false, not, List, filter, length, map, Option, option_map, codes, position, string_bytes}
use Rattle.std.specs.List.{list_any}
use Rattle.std.specs.declared.net.socket_addr.SocketAddr.{SocketAddr}
use Rattle.addresses.specs.declared.clients.Client.{Client}
use Rattle.addresses.specs.declared.clients.Location.{Location}
use Rattle.addresses.specs.declared.clients.Location.TheVariants.{Fixed, Learned}
use Rattle.settings_toml.specs.Formats.{has_stray}
use Rattle.settings_toml.specs.SettingsFaults.{Spot, endpoint, or_else}
use Rattle.settings_toml.specs.declared.settings_file.ClientText.{ClientText}

-- RTCP of a client here, and nothing else, comes from this address (RFC 3550, section 11)
abbrev pub has_rtcp_alone : (SocketAddr → SocketAddr → Bool) → SocketAddr → Location → Bool
has_rtcp_alone same address (Fixed places) = same places.rtcp address && not (same places.media address)
has_rtcp_alone same address (Learned within) = false

-- a client here has its address where another has its RTCP alone
abbrev pub is_mixed : (SocketAddr → SocketAddr → Bool) → List Client → Location → Bool
is_mixed same clients (Fixed places) =
    list_any (λ client. has_rtcp_alone same places.media client.location) clients
is_mixed same clients (Learned within) = false

-- one of its formats has the payload type of none of its encodings
abbrev pub is_odd : ClientText → Bool
is_odd text = has_stray (map string_bytes text.rtpmap.items) (map string_bytes text.fmtp.items)

-- the address is one of these
abbrev pub is_at : (SocketAddr → SocketAddr → Bool) → SocketAddr → Location → Bool
is_at same address (Fixed places) = same address places.media || same address places.rtcp
is_at same address (Learned within) = false

-- both have an address in common
abbrev pub meets : (SocketAddr → SocketAddr → Bool) → Location → Location → Bool
meets same (Fixed places) other = is_at same places.media other || is_at same places.rtcp other
meets same (Learned within) other = false

abbrev pub clients_there : (SocketAddr → SocketAddr → Bool) → List Client → Location → ℕ
clients_there same clients location =
    length (filter (λ client. meets same client.location location) clients)

-- the SSRC of a client is learned, and it isn't the only one at its addresses
abbrev pub is_taken : (SocketAddr → SocketAddr → Bool) → List Client → Client → Bool
is_taken same clients client =
    client.learns_ssrc && nat_lt 1 (clients_there same clients client.location)

abbrev pub first_taken : (SocketAddr → SocketAddr → Bool) → List Client → Option ℕ
first_taken same clients = position (is_taken same clients) clients

-- Where the first such fault stands: an address that is another's for RTCP alone comes before formats, and these before an SSRC that is learned at
-- another's address.
abbrev pub mixed_spot : (SocketAddr → SocketAddr → Bool) → List Client → List ClientText → Option Spot
mixed_spot same clients texts =
    or_else
    (option_map (λ number. endpoint number (codes "address"))
    (position (λ client. is_mixed same clients client.location) clients))
    (or_else
    (option_map (λ number. endpoint number (codes "fmtp")) (position is_odd texts))
    (option_map (λ number. endpoint number (codes "ssrc")) (first_taken same clients)))
