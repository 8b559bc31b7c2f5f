-- RTCP datagrams as trees and their bytes (RFC 3550, sections 6.1 and 6.4 to 6.6).
use Rattle.std.specs.Prelude.{◌≡◌, ℕ, ◌+◌, ◌-◌, ◌*◌, ◌/◌, ◌%◌, ◌^◌, ◌<◌, ◌≤◌, ◌⊎◌, ◌==◌, nat_lt, List, [], ◌∷◌, ◌++◌, length, slice_index, if◌then◌else◌}
use Rattle.std.specs.List.{flat_map}
use Rattle.rtcp_compound.specs.declared.packet.TheConstants.{SR, RR, SDES, BYE}
use Rattle.rtcp_compound.specs.declared.sizes.TheConstants.{SOURCE_BYTES, SENDER_BYTES, BLOCK_BYTES}

-- A packet: the count of its entries (or the FMT of feedback), its type, its body, and its padding, which most have not
-- (RFC 3550, sections 6.1 and 6.4 to 6.6).
pub record RtcpPacket : Type 0 where
  pub count : ℕ
  pub kind : ℕ
  pub body : List ℕ
  pub padding : List ℕ

-- A header is the version 2 in two bits, a bit for padding and five bits of count; the type; and the length in words
-- behind the header (RFC 3550, section 6.4.1).
abbrev pub packet_bytes : RtcpPacket → List ℕ
packet_bytes p =
    (128 + (if nat_lt 0 (length p.padding) then 32 else 0) + p.count) ∷ p.kind
    ∷ ((length p.body + length p.padding) / 4 / 256)
    ∷ ((length p.body + length p.padding) / 4 % 256)
    ∷ (p.body ++ p.padding)

-- an item of a chunk: its type, which is never 0, its length and its text (RFC 3550, section 6.5)
pub record Item : Type 0 where
  pub kind : ℕ
  pub text : List ℕ

abbrev pub item_bytes : Item → List ℕ
item_bytes i = i.kind ∷ length i.text ∷ i.text

abbrev pub AreItems : List Item → Type 0
AreItems [] = Unit {0}
AreItems (i ∷ is) = (0 < i.kind) × AreItems is

-- a chunk: a source, its items, a zero byte, and whatever fills it up to a word boundary
pub record Chunk : Type 0 where
  pub source : List ℕ
  pub items : List Item
  pub filling : List ℕ

abbrev pub chunk_bytes : Chunk → List ℕ
chunk_bytes c = c.source ++ (flat_map item_bytes c.items ++ (0 ∷ c.filling))

pub record IsChunk (c : Chunk) : Type 0 where
  pub source : length c.source ≡ 4
  pub items : AreItems c.items
  pub filling : length c.filling < 4
  pub whole : length (chunk_bytes c) % 4 ≡ 0

abbrev pub AreChunks : List Chunk → Type 0
AreChunks [] = Unit {0}
AreChunks (c ∷ cs) = IsChunk c × AreChunks cs

-- so many chunks stand at the front; bytes behind them are ignored
pub record HasChunks (n : ℕ) (body : List ℕ) : Type 0 where
  pub chunks : List Chunk
  pub extension : List ℕ
  pub count : length chunks ≡ n
  pub each : AreChunks chunks
  pub bytes_are : body ≡ flat_map chunk_bytes chunks ++ extension

-- where so many sources end, in bytes of a body that begins with them
abbrev pub sources_end : ℕ → ℕ
sources_end count = SOURCE_BYTES * count

-- A goodbye names so many sources; then may come a byte with the length of a reason, and the reason. The rest is ignored.
abbrev pub HasSources : ℕ → List ℕ → Type 0
HasSources count body =
    (sources_end count ≤ length body)
    × ((length body ≡ sources_end count)
    ⊎ (sources_end count + 1 + slice_index body (sources_end count) ≤ length body))

-- Where so many report blocks end, in bytes of a report's body: before them stands the source, and in a sender report what
-- it says of its sender, too (RFC 3550, sections 6.4.1 and 6.4.2).
abbrev pub reports_end : ℕ → ℕ → ℕ
reports_end kind count =
    (if kind == SR then SENDER_BYTES else SOURCE_BYTES) + BLOCK_BYTES * count

-- The body of a report holds the blocks that are counted. After them may come an extension, which is ignored
-- (RFC 3550, sections 6.4.1 and 6.4.2).
pub record HasReports (kind count : ℕ) (body : List ℕ) : Type 0 where
  pub sender_report : kind ≡ SR → reports_end SR count ≤ length body
  pub receiver_report : kind ≡ RR → reports_end RR count ≤ length body

-- What stands in a body by the packet's type: report blocks, chunks, sources, and anything at all in packets of other types.
pub record IsBody (kind count : ℕ) (body : List ℕ) : Type 0 where
  pub reports : HasReports kind count body
  pub description : kind ≡ SDES → HasChunks count body
  pub goodbye : kind ≡ BYE → HasSources count body

abbrev pub last_byte : List ℕ → ℕ
last_byte bytes = slice_index bytes (length bytes - 1)

-- the last byte of a padding is its length, a multiple of four (RFC 3550, section 6.4.1)
pub record IsPacket (p : RtcpPacket) : Type 0 where
  pub count : p.count < 32
  pub words : (length p.body + length p.padding) % 4 ≡ 0
  pub length_fits : length p.body + length p.padding < 4 * 2 ^ 16
  pub padding : length p.padding % 4 ≡ 0
  pub padding_length : last_byte p.padding ≡ length p.padding
  pub body : IsBody p.kind p.count p.body

-- one or more packets, the last alone with padding (RFC 3550, section 6.1)
abbrev pub AreJoined : List RtcpPacket → Type 0
AreJoined [] = Unit {0}
AreJoined (p ∷ []) = IsPacket p
AreJoined (p ∷ (q ∷ ps)) = IsPacket p × (p.padding ≡ []) × AreJoined (q ∷ ps)

-- the datagram is the bytes of these packets, one or more (RFC 3550, sections 6.1 and 6.4 to 6.6)
pub record ReadsRtcp (bytes : List ℕ) (ps : List RtcpPacket) : Type 0 where
  pub some : 0 < length ps
  pub joined : AreJoined ps
  pub bytes_are : bytes ≡ flat_map packet_bytes ps
