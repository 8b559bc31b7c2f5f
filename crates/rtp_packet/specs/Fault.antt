-- Why a datagram is no RTP packet, by arithmetic on its bytes (RFC 3550, sections 5.1 and 5.3.1). A byte past the
-- end counts as 0.
use Rattle.std.specs.Prelude.{◌≡◌, ◌≢◌, ◌==◌, ℕ, ◌+◌, ◌-◌, ◌*◌, ◌/◌, ◌%◌, ◌<◌, ◌≤◌, ◌⊎◌, if◌then◌else◌, List, length, drop, slice_index}
use Rattle.byteorder.specs.Endian.{big_number}
use Rattle.rtp_packet.specs.declared.fault.RtpFault.{RtpFault}
use Rattle.rtp_packet.specs.declared.fault.RtpFault.TheVariants.{Short, Version, CsrcShort, ExtensionShort, Padding, Room}

abbrev pub rtp_number : RtpFault → ℕ
rtp_number Short = 1
rtp_number Version = 2
rtp_number CsrcShort = 3
rtp_number ExtensionShort = 4
rtp_number Padding = 5
rtp_number Room = 6

-- twelve bytes or more, of version 2
abbrev pub HasFixedHeader : List ℕ → Type 0
HasFixedHeader d = (12 ≤ length d) × (slice_index d 0 / 64 ≡ 2)

-- the place after the CSRCs, of which the first byte has a count in four bits
abbrev pub csrc_end : List ℕ → ℕ
csrc_end d = 12 + 4 * (slice_index d 0 % 16)

-- the place after the extension, which counts its words after its own header, in its second two bytes
abbrev pub extension_end : List ℕ → ℕ
extension_end d =
    if (slice_index d 0 / 16 % 2) == 1
    then csrc_end d + (4 + 4 * big_number 2 (drop (csrc_end d + 2) d))
    else csrc_end d

-- the last of these bytes is no count of padding within them: there is none, it is 0, or it is above their number
abbrev pub IsNoCount : List ℕ → Type 0
IsNoCount rest =
    let count = slice_index rest (length rest - 1) in
    (length rest ≡ 0) ⊎ ((count ≡ 0) ⊎ (length rest < count))

-- The datagram has this fault, and none of a lesser number (RFC 3550, section 5.1).
abbrev pub HasRtpFault : List ℕ → RtpFault → Type 0
HasRtpFault d Short = length d < 12
HasRtpFault d Version = (12 ≤ length d) × (slice_index d 0 / 64 ≢ 2)
HasRtpFault d CsrcShort = HasFixedHeader d × (length d < csrc_end d)
HasRtpFault d ExtensionShort =
    HasFixedHeader d × (csrc_end d ≤ length d) × (length d < extension_end d)
HasRtpFault d Padding =
    HasFixedHeader d × (csrc_end d ≤ length d) × (extension_end d ≤ length d)
    × (slice_index d 0 / 32 % 2 ≡ 1) × IsNoCount (drop (extension_end d) d)
HasRtpFault d Room = ⊥

-- the datagram's fixed header has this fault
abbrev pub HasHeaderFault : List ℕ → RtpFault → Type 0
HasHeaderFault d fault =
    ((fault ≡ Short) × HasRtpFault d Short) ⊎ ((fault ≡ Version) × HasRtpFault d Version)
