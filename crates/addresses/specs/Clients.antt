-- Where the clients are that the texts of a settings file spell, endpoint by endpoint.
use Rattle.std.specs.Prelude.{◌≡◌, ◌≢◌, ◌⊎◌, ℕ, Bool, true, false, codes, ⊤, List, [], ◌∷◌, ◌++◌, Option, Some, None, Result, Ok, Err, length}
use Rattle.std.specs.String.{string_bytes}
use Rattle.std.specs.Net.Addr.{IsUnspecifiedV4, IsUnspecifiedV6, MatchIp, is_ipv4}
use Rattle.std.specs.Net.Grammar.{IsSocketText}
use Rattle.std.specs.Net.Socket.{socket_ip, socket_port}
use Rattle.std.specs.declared.string.String.{String}
use Rattle.std.specs.declared.net.socket_addr.SocketAddr.{SocketAddr}
use Rattle.settings_toml.specs.declared.settings_file.ClientText.{ClientText}
use Rattle.addresses.specs.declared.clients.Client.{Client}
use Rattle.addresses.specs.declared.clients.Listening.{Listening}
use Rattle.addresses.specs.declared.clients.Location.{Location}
use Rattle.addresses.specs.declared.clients.Location.TheVariants.{Fixed, Learned}
use Rattle.addresses.specs.declared.network.Network.{Network}
use Rattle.addresses.specs.Network.{SpellsNetwork, SpellsNoNetwork}
use Rattle.addresses.specs.declared.clients.AddressKey.{AddressKey}
use Rattle.addresses.specs.declared.clients.AddressKey.TheVariants.{Address, LearnFrom, ReceiveOnly, RtcpAddress, Ssrc}
use Rattle.addresses.specs.declared.clients.ClientFault.{ClientFault}
use Rattle.addresses.specs.declared.clients.ClientFault.TheVariants.{NoMemory, Endpoint}

-- the text is there, and spells the address
abbrev pub Spells : {A : Type 0} → Option (String A) → SocketAddr → Type 0
Spells None address = ⊥
Spells (Some text) address = IsSocketText (string_bytes text) address

-- the address isn't the one for RTCP, if there is one
abbrev pub IsApart : (SocketAddr → SocketAddr → Bool) → SocketAddr → Option SocketAddr → Type 0
IsApart same address None = ⊤
IsApart same address (Some rtcp) = same address rtcp ≡ false

-- A unit that listens there can send to the address: it is of the same version of IP, has a port and names a host, and isn't where
-- the unit listens itself.
pub record IsReachable (same : SocketAddr → SocketAddr → Bool) (listen : Listening)
    (address : SocketAddr) : Type 0 where
  pub version : is_ipv4 (socket_ip address) ≡ is_ipv4 (socket_ip listen.media)
  pub port : socket_port address ≢ 0
  pub host : ¬ (MatchIp (socket_ip address) IsUnspecifiedV4 IsUnspecifiedV6)
  pub apart : same address listen.media ≡ false
  pub apart_rtcp : IsApart same address listen.rtcp

abbrev pub SpellsReachable : {A : Type 0} → (SocketAddr → SocketAddr → Bool) → Listening
    → Option (String A) → SocketAddr → Type 0
SpellsReachable same listen text address = Spells text address × IsReachable same listen address

-- it spells none, or one that can't be reached
abbrev pub SpellsNowhere : {A : Type 0} → (SocketAddr → SocketAddr → Bool) → Listening
    → Option (String A) → Type 0
SpellsNowhere same listen text =
    ((address : SocketAddr) → ¬ (Spells text address))
    ⊎ ((address : SocketAddr) × Spells text address × ¬ (IsReachable same listen address))

-- the text spells the address of RTCP, which without a text is the one of all else
abbrev pub SpellsRtcp : {A : Type 0} → (SocketAddr → SocketAddr → Bool) → Listening
    → Option (String A) → SocketAddr → SocketAddr → Type 0
SpellsRtcp same listen None address other = other ≡ address
SpellsRtcp same listen (Some text) address other = SpellsReachable same listen (Some text) other

abbrev pub SpellsNoRtcp : {A : Type 0} → (SocketAddr → SocketAddr → Bool) → Listening
    → Option (String A) → Type 0
SpellsNoRtcp same listen None = ⊥
SpellsNoRtcp same listen (Some text) = SpellsNowhere same listen (Some text)

-- the text says that the address is learned
abbrev pub IsLearned : {A : Type 0} → Option (String A) → Type 0
IsLearned None = ⊥
IsLearned (Some text) = string_bytes text ≡ codes "learn"

-- the network that an address is learned from: none without a text; else of the version that the unit listens with
abbrev pub SpellsBound : {A : Type 0} → Listening → Option (String A) → Option Network → Type 0
SpellsBound listen None within = within ≡ None
SpellsBound listen (Some text) within =
    (network : Network) × SpellsNetwork (string_bytes text) network
    × (is_ipv4 network.address ≡ is_ipv4 (socket_ip listen.media)) × (within ≡ Some network)

-- it spells none, or one of the other version
abbrev pub SpellsNoBound : {A : Type 0} → Listening → Option (String A) → Type 0
SpellsNoBound listen None = ⊥
SpellsNoBound listen (Some text) =
    SpellsNoNetwork (string_bytes text)
    ⊎ ((network : Network) × SpellsNetwork (string_bytes text) network
    × (is_ipv4 network.address ≢ is_ipv4 (socket_ip listen.media)))

-- a client that has one address for all, and speaks for itself
abbrev pub client_at : SocketAddr → Client
client_at address = record {
  location = Fixed (record { media = address; rtcp = address });
  learns_ssrc = false;
  receive_only = false;
}

-- the client that is at its addresses
abbrev pub SpellsFixed : (SocketAddr → SocketAddr → Bool) → Listening → ClientText → Location
    → Type 0
SpellsFixed same listen text (Learned within) = ⊥
SpellsFixed same listen text (Fixed places) =
    SpellsReachable same listen text.address places.media
    × SpellsRtcp same listen text.rtcp_address places.media places.rtcp
    × (text.learn_from ≡ None)

-- the client whose address is learned: nothing else is said of addresses, it speaks for itself, and its SSRC is said
abbrev pub SpellsLearned : Listening → ClientText → Location → Type 0
SpellsLearned listen text (Fixed places) = ⊥
SpellsLearned listen text (Learned within) =
    SpellsBound listen text.learn_from within × (text.rtcp_address ≡ None)
    × (text.receive_only ≡ false) × (text.learns_ssrc ≡ false)

-- the client that the texts spell
pub record SpellsClient (same : SocketAddr → SocketAddr → Bool) (listen : Listening)
    (text : ClientText) (client : Client) : Type 0 where
  pub fixed : ¬ (IsLearned text.address) → SpellsFixed same listen text client.location
  pub learned : IsLearned text.address → SpellsLearned listen text client.location
  pub learns_ssrc : client.learns_ssrc ≡ text.learns_ssrc
  pub receive_only : client.receive_only ≡ text.receive_only

-- the first key that is wrong of a client that is at its addresses
abbrev pub FixedFault : (SocketAddr → SocketAddr → Bool) → Listening → ClientText → AddressKey
    → Type 0
FixedFault same listen text Address = SpellsNowhere same listen text.address
FixedFault same listen text LearnFrom =
    ((address : SocketAddr) × SpellsReachable same listen text.address address)
    × (text.learn_from ≢ None)
FixedFault same listen text ReceiveOnly = ⊥
FixedFault same listen text RtcpAddress =
    ((address : SocketAddr) × SpellsReachable same listen text.address address)
    × (text.learn_from ≡ None) × SpellsNoRtcp same listen text.rtcp_address
FixedFault same listen text Ssrc = ⊥

-- and of one whose address is learned
abbrev pub LearnedFault : Listening → ClientText → AddressKey → Type 0
LearnedFault listen text Address = ⊥
LearnedFault listen text LearnFrom = SpellsNoBound listen text.learn_from
LearnedFault listen text ReceiveOnly =
    ((within : Option Network) × SpellsBound listen text.learn_from within)
    × (text.receive_only ≡ true)
LearnedFault listen text RtcpAddress =
    ((within : Option Network) × SpellsBound listen text.learn_from within)
    × (text.receive_only ≡ false) × (text.rtcp_address ≢ None)
LearnedFault listen text Ssrc =
    ((within : Option Network) × SpellsBound listen text.learn_from within)
    × (text.receive_only ≡ false) × (text.rtcp_address ≡ None) × (text.learns_ssrc ≡ true)

-- The first key that is wrong.
pub record SpellsNone (same : SocketAddr → SocketAddr → Bool) (listen : Listening)
    (text : ClientText) (key : AddressKey) : Type 0 where
  pub fixed : ¬ (IsLearned text.address) → FixedFault same listen text key
  pub learned : IsLearned text.address → LearnedFault listen text key

-- of the endpoint with this number
abbrev pub FaultOfClient : (SocketAddr → SocketAddr → Bool) → Listening → ℕ → ClientText
    → ClientFault → Type 0
FaultOfClient same listen here text NoMemory = Unit {0}
FaultOfClient same listen here text (Endpoint number key) =
    (number ≡ here) × SpellsNone same listen text key

-- what texts spell after these clients: all of them, or the first endpoint with a key that spells no such address
abbrev pub AreSpelledBehind : (SocketAddr → SocketAddr → Bool) → Listening → List Client
    → List ClientText → Result (List Client) (ℕ × AddressKey) → Type 0
AreSpelledBehind same listen before [] read = read ≡ Ok before
AreSpelledBehind same listen before (text ∷ texts) read =
    ((client : Client) × SpellsClient same listen text client
    × AreSpelledBehind same listen (before ++ client ∷ []) texts read)
    ⊎ ((key : AddressKey) × SpellsNone same listen text key × (read ≡ Err (length before, key)))

-- the clients that texts spell, endpoint by endpoint, or the first endpoint with a key that spells no address
abbrev pub AreSpelled : (SocketAddr → SocketAddr → Bool) → Listening → List ClientText
    → Result (List Client) (ℕ × AddressKey) → Type 0
AreSpelled same listen texts read = AreSpelledBehind same listen [] texts read

-- why texts say nothing of where clients are
abbrev pub ClientFaults : (SocketAddr → SocketAddr → Bool) → Listening → List ClientText
    → ClientFault → Type 0
ClientFaults same listen texts NoMemory = Unit {0}
ClientFaults same listen texts (Endpoint number key) =
    AreSpelled same listen texts (Err (number, key))

-- ---- the keys, as a file has them

abbrev pub key_text : AddressKey → List ℕ
key_text Address = codes "address"
key_text LearnFrom = codes "learn_from"
key_text ReceiveOnly = codes "receive_only"
key_text RtcpAddress = codes "rtcp_address"
key_text Ssrc = codes "ssrc"
