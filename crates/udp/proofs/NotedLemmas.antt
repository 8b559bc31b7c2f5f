-- No datagram has more to note than there is room for.
use Rattle.std.proofs.Common.{◌≡◌, ◌==◌, ◌∙◌, ℕ, zero, suc, ◌+◌, ◌-◌, ◌*◌, ◌/◌, ◌≤◌, Bool, true, false, List, [], ◌∷◌, ◌++◌, Option, None, Some, length, take, drop, map, refl, ap, arith, length-append, length-drop, length-take, take_all}
use Rattle.std.specs.Prelude.{◌&&◌, ◌||◌, fold, nat_le, if◌then◌else◌}
use Rattle.std.specs.List.{flat_map}
use Rattle.rtcp_compound.specs.Content.{Content, packet_content, feedback}
use Rattle.rtcp_compound.specs.Entries.{entries_from}
use Rattle.rtcp_compound.specs.Grammar.{ReadsRtcp, RtcpPacket, packet_bytes}
use Rattle.rtcp_compound.specs.Report.{block_in, blocks_in}
use Rattle.rtcp_compound.specs.declared.packet.TheConstants.{SR, RR, SDES, BYE, RTPFB, PSFB}
use Rattle.rtcp_compound.specs.declared.sizes.TheConstants.{SOURCE_BYTES, SENDER_BYTES, BLOCK_BYTES}
use Rattle.datagram.specs.Blocks.{blocks_said}
use Rattle.datagram.specs.Notes.{AreNoted}
use Rattle.datagram.specs.Notice.{entries_of, last_notice, later_notice, notice_body, notice_in, or_former}
use Rattle.datagram.specs.declared.notes.Notes.{Notes}
use Rattle.udp.specs.Noted.{HasRoom, NotesAll}

-- ---- blocks, of 24 bytes each

entries_count : {A : Type 0} (entry : List ℕ → A) (size n : ℕ) (bytes : List ℕ) → length (entries_from entry size n bytes) ≡ n
entries_count entry size zero bytes = refl
entries_count entry size (suc n) bytes = ap (λ (m : ℕ). suc m) (entries_count entry size n (drop size bytes))

blocks_count : (bytes : List ℕ) → length (blocks_in bytes) ≡ length bytes / 24
unfolding blocks_in
blocks_count bytes = entries_count block_in BLOCK_BYTES (length bytes / BLOCK_BYTES) bytes

-- those that stand within a body
blocks_within : (body : List ℕ) (from size : ℕ) → 24 * length (blocks_in (take size (drop from body))) ≤ length body
blocks_within body from size =
    omega (arith, blocks_count (take size (drop from body)), length-take size (drop from body), length-drop from body)

blocks_either : (b : Bool) (c d : Content) (n : ℕ) → 24 * length (blocks_said c) ≤ n → 24 * length (blocks_said d) ≤ n
    → 24 * length (blocks_said (if b then c else d)) ≤ n
blocks_either true c d n one another = one
blocks_either false c d n one another = another

blocks_of_packet : (p : RtcpPacket) → 24 * length (blocks_said (packet_content p)) ≤ length p.body
unfolding packet_content
blocks_of_packet p =
    blocks_either (p.kind == SR) _ _ (length p.body) (blocks_within p.body SENDER_BYTES (BLOCK_BYTES * p.count))
    (blocks_either (p.kind == RR) _ _ (length p.body) (blocks_within p.body SOURCE_BYTES (BLOCK_BYTES * p.count))
    (blocks_either (p.kind == SDES) _ _ (length p.body) (omega arith)
    (blocks_either (p.kind == BYE) _ _ (length p.body) (omega arith)
    (blocks_either ((p.kind == RTPFB) || (p.kind == PSFB)) _ _ (length p.body) (omega arith) (omega arith)))))

blocks_of_all : (ps : List RtcpPacket) → 24 * length (flat_map blocks_said (map packet_content ps)) ≤ length (flat_map packet_bytes ps)
blocks_of_all [] = omega arith
blocks_of_all (p ∷ ps) =
    omega (
      arith,
      blocks_of_packet p,
      blocks_of_all ps,
      length-append (blocks_said (packet_content p)) (flat_map blocks_said (map packet_content ps)),
      length-append (packet_bytes p) (flat_map packet_bytes ps),
      length-append p.body p.padding,
    )

-- ---- entries of a TMMBN, of 8 bytes each

entries_within : (bytes : List ℕ) → 8 * length (entries_of (Some bytes)) ≤ length bytes
entries_within [] = omega arith
entries_within (a ∷ []) = omega arith
entries_within (a ∷ (b ∷ [])) = omega arith
entries_within (a ∷ (b ∷ (c ∷ []))) = omega arith
entries_within (a ∷ (b ∷ (c ∷ (d ∷ [])))) = omega arith
entries_within (a ∷ (b ∷ (c ∷ (d ∷ (e ∷ []))))) = omega arith
entries_within (a ∷ (b ∷ (c ∷ (d ∷ (e ∷ (f ∷ [])))))) = omega arith
entries_within (a ∷ (b ∷ (c ∷ (d ∷ (e ∷ (f ∷ (g ∷ []))))))) = omega arith
entries_within (a ∷ (b ∷ (c ∷ (d ∷ (e ∷ (f ∷ (g ∷ (h ∷ rest)))))))) = omega (arith, entries_within rest)

-- how many bytes a notice has
abbrev size_of : Option (List ℕ) → ℕ
size_of None = 0
size_of (Some bytes) = length bytes

notice_either : (b : Bool) (c d : Content) (n : ℕ) → size_of (notice_in c) ≤ n → size_of (notice_in d) ≤ n
    → size_of (notice_in (if b then c else d)) ≤ n
notice_either true c d n one another = one
notice_either false c d n one another = another

size_either : (b : Bool) (x y : Option (List ℕ)) (n : ℕ) → size_of x ≤ n → size_of y ≤ n → size_of (if b then x else y) ≤ n
size_either true x y n one another = one
size_either false x y n one another = another

body_size : (body : List ℕ) → size_of (notice_body body) ≤ length body
body_size body = size_either (nat_le 8 (length body)) (Some (drop 8 body)) None (length body) (omega (arith, length-drop 8 body)) (omega arith)

feedback_size : (fmt kind : ℕ) (body : List ℕ) → size_of (notice_in (feedback fmt kind body)) ≤ length body
feedback_size fmt kind body = size_either ((fmt == 4) && (kind == RTPFB)) (notice_body body) None (length body) (body_size body) (omega arith)

packet_size : (p : RtcpPacket) → size_of (notice_in (packet_content p)) ≤ length p.body
unfolding packet_content
packet_size p =
    notice_either (p.kind == SR) _ _ (length p.body) (omega arith)
    (notice_either (p.kind == RR) _ _ (length p.body) (omega arith)
    (notice_either (p.kind == SDES) _ _ (length p.body) (omega arith)
    (notice_either (p.kind == BYE) _ _ (length p.body) (omega arith)
    (notice_either ((p.kind == RTPFB) || (p.kind == PSFB)) _ _ (length p.body) (feedback_size p.count p.kind p.body) (omega arith)))))

later_size : (former next : Option (List ℕ)) (m n : ℕ) → size_of former ≤ m → size_of next ≤ n → size_of (or_former former next) ≤ m + n
later_size former None m n one another = omega (arith, one)
later_size former (Some notice) m n one another = omega (arith, another)

notice_size : (former : Option (List ℕ)) (ps : List RtcpPacket) (n : ℕ) → size_of former ≤ n
    → size_of (fold later_notice former (map packet_content ps)) ≤ n + length (flat_map packet_bytes ps)
notice_size former [] n fits = omega (arith, fits)
notice_size former (p ∷ ps) n fits =
    let here = later_size former (notice_in (packet_content p)) n (length p.body) fits (packet_size p) in
    let more = notice_size (later_notice former (packet_content p)) ps (n + length p.body) here in
    omega (arith, more, length-append (packet_bytes p) (flat_map packet_bytes ps), length-append p.body p.padding)

entries_of_size : (notice : Option (List ℕ)) → 8 * length (entries_of notice) ≤ size_of notice
entries_of_size None = omega arith
entries_of_size (Some bytes) = entries_within bytes

-- ---- all of it is noted

pub notes_all : (datagram : List ℕ) (packets : List RtcpPacket) (n : Notes) → ReadsRtcp datagram packets → length datagram ≤ 65535 → HasRoom n
    → AreNoted n (map packet_content packets) → NotesAll n (map packet_content packets)
notes_all datagram packets n reads fits room noted =
    let size : length datagram ≡ length (flat_map packet_bytes packets) = ap length reads.bytes_are in
    let few_blocks : length (flat_map blocks_said (map packet_content packets)) ≤ n.most_blocks =
    omega (arith, blocks_of_all packets, size, fits, room.blocks) in
    let few_entries : length (last_notice (map packet_content packets)) ≤ n.most_entries =
    omega (
      arith,
      entries_of_size (fold later_notice None (map packet_content packets)),
      notice_size None packets 0 (omega arith),
      size,
      fits,
      room.entries,
    ) in
    record {
      kinds = noted.kinds;
      blocks = noted.blocks ∙ take_all n.most_blocks (flat_map blocks_said (map packet_content packets)) few_blocks;
      notice = noted.notice ∙ take_all n.most_entries (last_notice (map packet_content packets)) few_entries;
    }
