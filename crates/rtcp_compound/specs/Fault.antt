-- Why a datagram joins no packets, by arithmetic on its bytes (RFC 3550, sections 6.1 and 6.4 to 6.6). A byte past the end
-- counts as 0.
use Rattle.std.specs.Prelude.{◌≡◌, ◌≢◌, ◌==◌, ℕ, ◌+◌, ◌-◌, ◌*◌, ◌/◌, ◌%◌, ◌<◌, ◌≤◌, nat_lt, nat_le, Bool, false, ◌&&◌, List, [], ◌∷◌, ◌++◌, length, take, drop, slice_index}
use Rattle.std.specs.List.{flat_map}
use Rattle.byteorder.specs.Endian.{big_number}
use Rattle.rtcp_compound.specs.declared.fault.RtcpFault.{RtcpFault}
use Rattle.rtcp_compound.specs.declared.fault.RtcpFault.TheVariants.{Short, Version, Length, PaddingNotLast, Padding, CountOver, SdesUnended}
use Rattle.rtcp_compound.specs.Grammar.{RtcpPacket, packet_bytes, last_byte, IsPacket, IsBody}
use Rattle.rtcp_compound.specs.declared.packet.TheConstants.{SDES}

-- the numbers of the faults, as texts show them
abbrev pub rtcp_fault_number : RtcpFault → ℕ
rtcp_fault_number Short = 1
rtcp_fault_number Version = 2
rtcp_fault_number Length = 3
rtcp_fault_number PaddingNotLast = 4
rtcp_fault_number Padding = 5
rtcp_fault_number CountOver = 6
rtcp_fault_number SdesUnended = 7

-- the length of the packet at the front with its header, as the header says
abbrev pub size_of : List ℕ → ℕ
size_of bytes = 4 * (big_number 2 (drop 2 bytes) + 1)

-- a header of version 2
abbrev pub HasHeader : List ℕ → Type 0
HasHeader bytes = (4 ≤ length bytes) × (slice_index bytes 0 / 64 ≡ 2)

-- a header of version 2, and as many bytes as it says
abbrev pub IsWithin : List ℕ → Type 0
IsWithin bytes = HasHeader bytes × (size_of bytes ≤ length bytes)

-- the header says that padding ends the packet
abbrev pub SaysPadded : List ℕ → Type 0
SaysPadded bytes = slice_index bytes 0 / 32 % 2 ≡ 1

-- the last byte counts a padding that ends these bytes: at least one, a multiple of four, and none that isn't there
-- (RFC 3550, section 6.4.1)
abbrev pub ends_in_padding : List ℕ → Bool
ends_in_padding bytes = nat_lt 0 (last_byte bytes) && (last_byte bytes % 4 == 0)
    && nat_le (last_byte bytes) (length bytes)

-- Header, length and padding of the packet at the front are good: between header and padding stands this body. There is
-- padding if the header says so, the packet then is the last, and the last byte is how much.
pub record HasFrame (bytes body : List ℕ) : Type 0 where
  pub within : IsWithin bytes
  pub padding : List ℕ
  pub content : take (size_of bytes - 4) (drop 4 bytes) ≡ body ++ padding
  pub none : (SaysPadded bytes → ⊥) → padding ≡ []
  pub last : SaysPadded bytes → size_of bytes ≡ length bytes
  pub some : SaysPadded bytes → 0 < length padding
  pub whole : length padding % 4 ≡ 0
  pub count : SaysPadded bytes → last_byte (body ++ padding) ≡ length padding

-- the body isn't what the packet's type and count say
abbrev pub IsNoBody : List ℕ → List ℕ → Type 0
IsNoBody bytes body = IsBody (slice_index bytes 1) (slice_index bytes 0 % 32) body → ⊥

-- The bytes begin with a packet that has this fault, and none of a lesser number (RFC 3550, sections 6.1 and 6.4 to 6.6).
abbrev pub HasRtcpFault : List ℕ → RtcpFault → Type 0
HasRtcpFault bytes Short = length bytes < 4
HasRtcpFault bytes Version = (4 ≤ length bytes) × (slice_index bytes 0 / 64 ≢ 2)
HasRtcpFault bytes Length = HasHeader bytes × (length bytes < size_of bytes)
HasRtcpFault bytes PaddingNotLast =
    IsWithin bytes × SaysPadded bytes × (size_of bytes < length bytes)
HasRtcpFault bytes Padding = IsWithin bytes × SaysPadded bytes × (size_of bytes ≡ length bytes)
    × (ends_in_padding (drop 4 bytes) ≡ false)
HasRtcpFault bytes CountOver =
    (body : List ℕ) × HasFrame bytes body × (slice_index bytes 1 ≢ SDES) × IsNoBody bytes body
HasRtcpFault bytes SdesUnended =
    (body : List ℕ) × HasFrame bytes body × (slice_index bytes 1 ≡ SDES) × IsNoBody bytes body

-- whole packets without padding
abbrev pub AreUnpadded : List RtcpPacket → Type 0
AreUnpadded [] = Unit {0}
AreUnpadded (p ∷ ps) = IsPacket p × (p.padding ≡ []) × AreUnpadded ps

-- Before the rest stand whole packets without padding. There may be none of them; after one something follows.
pub record Passes (bytes rest : List ℕ) : Type 0 where
  pub before : List RtcpPacket
  pub each : AreUnpadded before
  pub goes_on : 0 < length before → 0 < length rest
  pub bytes_are : bytes ≡ flat_map packet_bytes before ++ rest

-- After whole packets without padding stands one with this fault: the first that is faulty
-- (RFC 3550, sections 6.1 and 6.4 to 6.6).
pub record Refuses (bytes : List ℕ) (fault : RtcpFault) : Type 0 where
  pub rest : List ℕ
  pub passes : Passes bytes rest
  pub here : HasRtcpFault rest fault
