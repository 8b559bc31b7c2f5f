-- The packets that are written, and how they are read again (RFC 4585, sections 6.1, 6.2.1 and 6.3.1; RFC 5104,
-- sections 4.2.1 and 4.2.2).
use Rattle.std.specs.Prelude.{◌≡◌, ℕ, ◌+◌, ◌/◌, ◌%◌, ◌^◌, ◌<◌, List, [], ◌∷◌, ◌++◌, length}
use Rattle.std.specs.List.{flat_map}
use Rattle.byteorder.specs.Endian.{big_bytes}
use Rattle.rtcp_feedback.specs.declared.nack.Nack.{Nack}
use Rattle.rtcp_feedback.specs.declared.tmmb.TmmbrEntry.{TmmbrEntry}
use Rattle.rtcp_feedback.specs.Grammar.{Message, ReadsFeedback, body_bytes, entry_bytes, nack_bytes}

-- A packet without padding of this FMT, type and body: the version 2 in two bits and the FMT in five; the type; the length
-- in words after the header in two bytes; the body (RFC 4585, section 6.1).
abbrev pub packet_bytes : ℕ → ℕ → List ℕ → List ℕ
packet_bytes fmt kind body = (128 + fmt) ∷ kind ∷ (big_bytes 2 (length body / 4) ++ body)

-- the body of a TMMBR or a TMMBN, as it is written: the source of media is 0
abbrev pub tmmb_body : ℕ → List TmmbrEntry → List ℕ
tmmb_body sender entries = body_bytes sender 0 (flat_map entry_bytes entries)

-- the body of a PLI, as it is written: no FCI
abbrev pub pli_body : ℕ → ℕ → List ℕ
pli_body sender media = body_bytes sender media []

-- the body of a NACK
abbrev pub nack_body : ℕ → ℕ → List Nack → List ℕ
nack_body sender media entries = body_bytes sender media (flat_map nack_bytes entries)

-- The header before this body says how long it is (whole words, as many as two bytes can say), and the packet is read as
-- this message (RFC 4585, section 6.1).
pub record IsReadAs (fmt kind : ℕ) (body : List ℕ) (m : Message) : Type 0 where
  pub fmt_fits : fmt < 32
  pub kind_fits : kind < 256
  pub words : length body % 4 ≡ 0
  pub length_fits : length body / 4 < 2 ^ 16
  pub reads : ReadsFeedback fmt kind body m

-- the front of a packet: a header that says its length in words, and the two sources
abbrev pub front_bytes : ℕ → ℕ → ℕ → ℕ → ℕ → List ℕ
front_bytes fmt kind words sender media =
    (128 + fmt) ∷ kind ∷ (big_bytes 2 words ++ (big_bytes 4 sender ++ big_bytes 4 media))
