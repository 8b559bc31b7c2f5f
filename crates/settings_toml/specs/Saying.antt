-- The line for settings that are wrong.
use Rattle.std.specs.Prelude.{◌≡◌, ◌≢◌, ◌⊎◌, ℕ, Bool, false, true, ◌||◌, IsTrue, List, [], ◌++◌, Option, None, Some, IfSome, codes, string_bytes}
use Rattle.std.specs.Fmt.{decimal}
use Rattle.std.specs.Str.{bytes_eq}
use Rattle.std.specs.Net.Addr.{IsUnspecifiedV4, IsUnspecifiedV6, MatchIp, is_ipv4}
use Rattle.std.specs.Net.Socket.{socket_ip, socket_port}
use Rattle.std.specs.declared.net.socket_addr.SocketAddr.{SocketAddr}
use Rattle.settings_toml.specs.SettingsFaults.{Spot, endpoint, leg, sources, top}
use Rattle.settings_toml.specs.declared.settings_file.SettingsProblem.{SettingsProblem}
use Rattle.settings_toml.specs.declared.settings_file.SettingsProblem.TheVariants.{NoMemory, File, Toml, Top, Endpoint, Leg, SameSsrc}
use Rattle.settings_toml.specs.declared.wanted.Wanted.{Wanted}
use Rattle.settings_toml.specs.Distance.{Means}
use Rattle.settings_toml.specs.Noticed.{absent_of, are_formats_of, unknown_of}
use Rattle.settings_toml.specs.Wanted.{keys_at, names_of, wanted_at, wanted_words, whose_keys}

-- a line of the file by its number, what stands there, and what is said of it
abbrev pub spotted_line : ℕ → List ℕ → List ℕ → List ℕ
spotted_line number what said =
    codes "line " ++ (decimal number ++ (codes ": " ++ (what ++ (said ++ codes "\n"))))

-- this is said of some line
pub record SaysOfLine (said line : List ℕ) : Type 0 where
  pub number : ℕ
  pub what : List ℕ
  pub is : line ≡ spotted_line number what said

-- ---- addresses to which a unit can't send

abbrev pub IsWhere : (SocketAddr → SocketAddr → Bool) → SocketAddr → Option SocketAddr → Type 0
IsWhere same address place = IfSome place (λ p. same p address ≡ true)

-- A unit that listens there, and there for RTCP, can send to the address.
pub record CanSendTo (same : SocketAddr → SocketAddr → Bool) (listen : SocketAddr)
    (rtcp : Option SocketAddr) (address : SocketAddr) : Type 0 where
  pub version : is_ipv4 (socket_ip address) ≡ is_ipv4 (socket_ip listen)
  pub port : socket_port address ≢ 0
  pub host : ¬ (MatchIp (socket_ip address) IsUnspecifiedV4 IsUnspecifiedV6)
  pub apart : same address listen ≡ false

-- the unit can't send to this address, for this reason
abbrev pub CantSendTo : (SocketAddr → SocketAddr → Bool) → SocketAddr → Option SocketAddr → SocketAddr
    → List ℕ → Type 0
CantSendTo same listen rtcp address why =
    ((is_ipv4 (socket_ip address) ≢ is_ipv4 (socket_ip listen))
    × (why ≡ codes "it isn't of the version of IP that listen has"))
    ⊎ (((socket_port address ≡ 0) × (why ≡ codes "its port is 0"))
    ⊎ ((MatchIp (socket_ip address) IsUnspecifiedV4 IsUnspecifiedV6
    × (why ≡ codes "it is no host's"))
    ⊎ (((same address listen ≡ true) × (why ≡ codes "the unit listens there itself"))
    ⊎ (IsWhere same address rtcp × (why ≡ codes "the unit listens there itself, for RTCP")))))

-- the keys of addresses
abbrev pub is_address_key : Spot → Bool
is_address_key (endpoint number key) =
    bytes_eq key (codes "address") || bytes_eq key (codes "rtcp_address")
is_address_key (top key) = false
is_address_key (leg number key) = false
is_address_key sources = false

-- some unit can't send to some address, for this reason
pub record IsReason (same : SocketAddr → SocketAddr → Bool) (why : List ℕ) : Type 0 where
  pub listen : SocketAddr
  pub rtcp : Option SocketAddr
  pub address : SocketAddr
  pub shut : CantSendTo same listen rtcp address why

-- It is said of an address why a unit can't send there.
pub record SaysWhyNot (same : SocketAddr → SocketAddr → Bool) (spot : Spot) (line : List ℕ) :
    Type 0 where
  pub why : List ℕ
  pub key : IsTrue (is_address_key spot)
  pub reason : IsReason same why
  pub says : SaysOfLine (codes " is no address to send to: " ++ why) line

-- ---- keys

-- the key of a fault that is at none of the sources together
abbrev pub spot_key : Spot → List ℕ
spot_key (top key) = key
spot_key (endpoint number key) = key
spot_key (leg number key) = key
spot_key sources = codes "ssrc"

abbrev pub no_key_words : Spot → List ℕ
no_key_words spot =
    codes " is no key of " ++ (whose_keys spot ++ (codes ": those are " ++ names_of spot))

-- what is said of a key that there isn't: which one may be meant, or which there are
abbrev pub misspelt_words : Spot → Option (List ℕ) → List ℕ
misspelt_words spot (Some near) = codes " is no key; " ++ (near ++ codes "?")
misspelt_words spot None = no_key_words spot

-- this is said of a key: in a line of the file, or in one that wasn't found
abbrev pub SaysOfKey : List ℕ → List ℕ → List ℕ → Type 0
SaysOfKey key said line =
    ((number : ℕ) × (line ≡ spotted_line number key said))
    ⊎ (line ≡ key ++ (said ++ codes "\n"))

-- There is no such key where the spot is, and the one that is meant is named, if one is.
pub record SaysNoKey (spot : Spot) (key line : List ℕ) : Type 0 where
  pub near : Option (List ℕ)
  pub means : Means (keys_at spot) key near
  pub says : SaysOfKey key (misspelt_words spot near) line

-- a key is missing: the first one of its table that there isn't is named, or else it is missed
abbrev pub SaysMissing : Spot → Wanted → Option (List ℕ) → List ℕ → Type 0
SaysMissing spot wanted (Some key) line = SaysNoKey spot key line
SaysMissing spot wanted None line =
    SaysOfLine (codes " is missing: there is no " ++ wanted_words wanted) line

-- what stands at a key of a text isn't what the key takes, or nothing stands there
abbrev pub SaysWanted : List ℕ → Spot → Wanted → List ℕ → Type 0
SaysWanted text spot wanted line =
    SaysOfLine (codes " is no " ++ wanted_words wanted) line
    ⊎ SaysMissing spot wanted (unknown_of text spot) line

-- what is said of a leg's end that is none of so many endpoints
abbrev pub nobody_words : ℕ → List ℕ
nobody_words count =
    codes " is no endpoint: the conference has " ++ (decimal count ++ codes ", numbered from 0")

-- this is said of what stands at a spot: in a line of the file, or in one that wasn't found
abbrev pub SaysAtSpot : Spot → List ℕ → List ℕ → Type 0
SaysAtSpot spot said line =
    SaysOfLine said line ⊎ (line ≡ spot_key spot ++ (said ++ codes "\n"))

-- what is said of formats that are texts
abbrev pub format_words : List ℕ
format_words = codes " has a payload type that rtpmap doesn't list"

-- what is said of an address to which a unit can send
abbrev pub mixed_words : List ℕ
mixed_words = codes " is another endpoint's for RTCP alone"

-- the key of an address for all but RTCP
abbrev pub is_media_key : Spot → Bool
is_media_key (endpoint number key) = bytes_eq key (codes "address")
is_media_key (top key) = false
is_media_key (leg number key) = false
is_media_key sources = false

-- some unit can send to an address that is given at such a key
pub record IsSendable (same : SocketAddr → SocketAddr → Bool) (spot : Spot) : Type 0 where
  pub key : IsTrue (is_media_key spot)
  pub listen : SocketAddr
  pub rtcp : Option SocketAddr
  pub address : SocketAddr
  pub can : CanSendTo same listen rtcp address

-- It is said of such an address that it is another's.
pub record SaysMixed (same : SocketAddr → SocketAddr → Bool) (spot : Spot) (line : List ℕ) : Type 0 where
  pub sendable : IsSendable same spot
  pub says : SaysOfLine mixed_words line

-- what is said of a key that there is, if not that it is nobody's number: of formats that are texts that one isn't listed; else what the
-- key takes, or why a unit can't send to an address, or whose that is
abbrev pub SaysOfValue : (SocketAddr → SocketAddr → Bool) → List ℕ → Spot → Wanted → Bool → List ℕ
    → Type 0
SaysOfValue same text spot wanted true line = SaysAtSpot spot format_words line
SaysOfValue same text spot wanted false line =
    SaysWanted text spot wanted line ⊎ (SaysWhyNot same spot line ⊎ SaysMixed same spot line)

-- what is said of a key that there is: of a leg's end that it is nobody
abbrev pub SaysOfKnown : (SocketAddr → SocketAddr → Bool) → List ℕ → Spot → Wanted → Option ℕ → List ℕ
    → Type 0
SaysOfKnown same text spot wanted (Some count) line = SaysAtSpot spot (nobody_words count) line
SaysOfKnown same text spot wanted None line =
    SaysOfValue same text spot wanted (are_formats_of text spot) line

-- what is said of a key of a text that there is, and of one that there isn't
abbrev pub SaysAtKey : (SocketAddr → SocketAddr → Bool) → List ℕ → Spot → Option Wanted → List ℕ
    → Type 0
SaysAtKey same text spot (Some wanted) line =
    SaysOfKnown same text spot wanted (absent_of text spot) line
SaysAtKey same text spot None line = SaysNoKey spot (spot_key spot) line

-- what is said of a problem at a key
abbrev pub SaysAt : (SocketAddr → SocketAddr → Bool) → List ℕ → Spot → List ℕ → Type 0
SaysAt same text spot line = SaysAtKey same text spot (wanted_at spot) line

-- ---- all problems

abbrev pub no_document : ℕ → List ℕ → List ℕ
no_document number why = spotted_line number (codes "no TOML: ") why

-- a line of the text isn't TOML, or nothing is found
abbrev pub SaysNoDocument : List ℕ → Type 0
SaysNoDocument line =
    (line ≡ []) ⊎ ((number : ℕ) × ((why : List ℕ) × (line ≡ no_document number why)))

abbrev pub shared_words : List ℕ
shared_words = codes " is another's: the unit, each endpoint and each leg have sources of their own"

-- What is said of a problem of a text: of a key what it takes or, if there is no such key, which is meant or which there are; nothing if
-- memory is wanting or the file can't be read.
abbrev pub SaysOfProblem : (SocketAddr → SocketAddr → Bool) → List ℕ → SettingsProblem → List ℕ
    → Type 0
SaysOfProblem same text NoMemory line = line ≡ []
SaysOfProblem same text File line = line ≡ []
SaysOfProblem same text Toml line = SaysNoDocument line
SaysOfProblem same text (Top key) line = SaysAt same text (top (string_bytes key)) line
SaysOfProblem same text (Endpoint number key) line =
    SaysAt same text (endpoint number (string_bytes key)) line
SaysOfProblem same text (Leg number key) line =
    SaysAt same text (leg number (string_bytes key)) line
SaysOfProblem same text SameSsrc line = (line ≡ []) ⊎ SaysOfLine shared_words line
