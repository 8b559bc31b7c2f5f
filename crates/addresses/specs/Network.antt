-- Networks of IP addresses.
use Rattle.std.specs.Prelude.{◌≡◌, ◌==◌, ◌≤◌, ◌<◌, ◌⊎◌, ◌-◌, ◌/◌, ◌^◌, ℕ, nat_le, Bool, true, false, List, length, if◌then◌else◌}
use Rattle.std.specs.List.{before_first, after_first, position_or_len}
use Rattle.std.specs.Net.Addr.{ipv4_bits, ipv6_bits}
use Rattle.std.specs.Net.Grammar.{IsIpText}
use Rattle.std.specs.Str.Parse.{IsNumeral, digits_value, without_leading_plus}
use Rattle.std.specs.declared.net.ip_addr.IpAddr.{IpAddr}
use Rattle.std.specs.declared.net.ip_addr.IpAddr.TheVariants.{V4, V6}
use Rattle.addresses.specs.declared.network.Network.{Network}

-- how many bits an address has
abbrev pub width : IpAddr → ℕ
width (V4 address) = 32
width (V6 address) = 128

-- two numbers are the same but for so many bits at their end; at 128 bits nothing of either is left
abbrev pub has_same_front : ℕ → ℕ → ℕ → Bool
has_same_front ours theirs rest =
    if nat_le 128 rest then true else (ours / 2 ^ rest) == (theirs / 2 ^ rest)

abbrev pub is_within_of : IpAddr → ℕ → IpAddr → Bool
is_within_of (V4 ours) bits (V4 theirs) = has_same_front (ipv4_bits ours) (ipv4_bits theirs) (32 - bits)
is_within_of (V6 ours) bits (V6 theirs) = has_same_front (ipv6_bits ours) (ipv6_bits theirs) (128 - bits)
is_within_of (V4 ours) bits (V6 theirs) = false
is_within_of (V6 ours) bits (V4 theirs) = false

-- an address of the network: of the same version, and with the same first bits (RFC 4632, section 3.1)
abbrev pub is_within : Network → IpAddr → Bool
is_within network address = is_within_of network.address network.bits address

-- the texts of an address and of a number of bits
pub record SpellsPair (address bits : List ℕ) (network : Network) : Type 0 where
  pub spelled : IsIpText address network.address
  pub number : IsNumeral 10 (without_leading_plus bits)
  pub value : digits_value 10 (without_leading_plus bits) ≡ network.bits
  pub fits : network.bits < 2 ^ 8

abbrev pub SpellsPairWithin : List ℕ → List ℕ → Network → Type 0
SpellsPairWithin address bits network =
    SpellsPair address bits network × (network.bits ≤ width network.address)

-- they spell none, or a number that is above the address's own
abbrev pub SpellsNoPair : List ℕ → List ℕ → Type 0
SpellsNoPair address bits =
    ((network : Network) → ¬ (SpellsPair address bits network))
    ⊎ ((network : Network) × SpellsPair address bits network
    × ¬ (network.bits ≤ width network.address))

abbrev pub before_slash : List ℕ → List ℕ
before_slash text = before_first (λ b. b == 47) text

abbrev pub after_slash : List ℕ → List ℕ
after_slash text = after_first (λ b. b == 47) text

abbrev pub HasSlash : List ℕ → Type 0
HasSlash text = position_or_len (λ b. b == 47) text < length text

abbrev pub HasNoSlash : List ℕ → Type 0
HasNoSlash text = position_or_len (λ b. b == 47) text ≡ length text

-- the text before the first slash is the address, and the text after it the number of bits
abbrev pub SpellsNetwork : List ℕ → Network → Type 0
SpellsNetwork text network =
    HasSlash text × SpellsPairWithin (before_slash text) (after_slash text) network

abbrev pub SpellsNoNetwork : List ℕ → Type 0
SpellsNoNetwork text =
    HasNoSlash text ⊎ SpellsNoPair (before_slash text) (after_slash text)
