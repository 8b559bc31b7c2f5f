-- Feedback packets: what they say, as a tree, and the bytes that say it (RFC 4585, sections 6.1, 6.2.1 and 6.3.1;
-- RFC 5104, sections 4.2.1 and 4.2.2).
use Rattle.std.specs.Prelude.{◌≡◌, ℕ, ◌^◌, ◌<◌, ◌⊎◌, List, ◌++◌, All}
use Rattle.std.specs.List.{flat_map}
use Rattle.byteorder.specs.Endian.{big_bytes}
use Rattle.rtcp_feedback.specs.declared.nack.Nack.{Nack}
use Rattle.rtcp_feedback.specs.declared.tmmb.TmmbrEntry.{TmmbrEntry}
use Rattle.rtcp_feedback.specs.declared.packet.TheConstants.{RTPFB, PSFB}

-- What a packet says (RFC 4585, sections 6.1, 6.2.1 and 6.3.1; RFC 5104, section 4.2). NACK: sender, source of media,
-- entries. PLI: sender, source of media. TMMBR and TMMBN: sender, entries. Any other: its sender.
pub data Message : Type 0 where
  nack : ℕ → ℕ → List Nack → Message
  pli : ℕ → ℕ → Message
  tmmbr : ℕ → List TmmbrEntry → Message
  tmmbn : ℕ → List TmmbrEntry → Message
  unknown : ℕ → Message

-- an entry of a NACK: PID and BLP in two bytes each (RFC 4585, section 6.2.1)
abbrev pub nack_bytes : Nack → List ℕ
nack_bytes n = big_bytes 2 n.pid ++ big_bytes 2 n.blp

abbrev pub IsNack : Nack → Type 0
IsNack n = (n.pid < 2 ^ 16) × (n.blp < 2 ^ 16)

-- an entry of a TMMBR or a TMMBN: a source and a word in four bytes each (RFC 5104, section 4.2.1.1)
abbrev pub entry_bytes : TmmbrEntry → List ℕ
entry_bytes e = big_bytes 4 e.ssrc.0 ++ big_bytes 4 e.word

abbrev pub IsEntry : TmmbrEntry → Type 0
IsEntry e = (e.ssrc.0 < 2 ^ 32) × (e.word < 2 ^ 32)

-- a body: the packet's sender and the source of media in four bytes each, then the feedback control information, FCI
-- (RFC 4585, section 6.1)
abbrev pub body_bytes : ℕ → ℕ → List ℕ → List ℕ
body_bytes sender media fci = big_bytes 4 sender ++ (big_bytes 4 media ++ fci)

pub record IsBody (body : List ℕ) (sender media : ℕ) (fci : List ℕ) : Type 0 where
  pub sender_fits : sender < 2 ^ 32
  pub media_fits : media < 2 ^ 32
  pub bytes_are : body ≡ body_bytes sender media fci

-- NACK, TMMBR and TMMBN are the FMTs 1, 3 and 4 of transport layer feedback, the packet type 205; PLI is the FMT 1 of
-- payload-specific feedback, 206.
abbrev pub IsKnown : ℕ → ℕ → Type 0
IsKnown fmt kind =
    ((kind ≡ RTPFB) × ((fmt ≡ 1) ⊎ ((fmt ≡ 3) ⊎ (fmt ≡ 4)))) ⊎ ((kind ≡ PSFB) × (fmt ≡ 1))

-- This FMT, type and body say this (RFC 4585, sections 6.1, 6.2.1 and 6.3.1; RFC 5104, section 4.2). Nobody looks at
-- the source of media of a TMMBR or TMMBN, the FCI of a PLI, or more than an unknown packet's sender.
abbrev pub ReadsFeedback : ℕ → ℕ → List ℕ → Message → Type 0
ReadsFeedback fmt kind body (nack sender media entries) =
    (kind ≡ RTPFB) × (fmt ≡ 1) × All IsNack entries
    × IsBody body sender media (flat_map nack_bytes entries)
ReadsFeedback fmt kind body (pli sender media) =
    (kind ≡ PSFB) × (fmt ≡ 1) × ((fci : List ℕ) × IsBody body sender media fci)
ReadsFeedback fmt kind body (tmmbr sender entries) =
    (kind ≡ RTPFB) × (fmt ≡ 3) × All IsEntry entries
    × ((media : ℕ) × IsBody body sender media (flat_map entry_bytes entries))
ReadsFeedback fmt kind body (tmmbn sender entries) =
    (kind ≡ RTPFB) × (fmt ≡ 4) × All IsEntry entries
    × ((media : ℕ) × IsBody body sender media (flat_map entry_bytes entries))
ReadsFeedback fmt kind body (unknown sender) =
    ¬ IsKnown fmt kind × ((media : ℕ) × (fci : List ℕ) × IsBody body sender media fci)
