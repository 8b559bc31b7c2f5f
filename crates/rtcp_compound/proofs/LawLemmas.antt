-- Packets in front of a datagram, and the one way to read chunks.
use Rattle.std.proofs.Common.{◌≡◌, ◌∙◌, ℕ, suc, ◌+◌, ◌%◌, ◌<◌, List, [], ◌∷◌, ◌++◌, length, take, drop, refl, sym, ap, ap₂, subst, arith, length-append, append_assoc, append-nil}
use Rattle.std.specs.List.{flat_map}
use Rattle.std.proofs.lemmas.List.{take_at, drop_at}
use Rattle.std.proofs.lemmas.List.Concat.{flat_map-append}
use Rattle.rtcp_compound.specs.Content.{Content}
use Rattle.rtcp_compound.specs.Grammar.{RtcpPacket, packet_bytes, AreJoined, ReadsRtcp, Item, item_bytes, AreItems, Chunk, chunk_bytes, IsChunk, AreChunks, HasChunks}
use Rattle.rtcp_compound.specs.Fault.{AreUnpadded}
use Rattle.rtcp_compound.specs.Written.{Appends}

-- ---- in front of a datagram

joined_alone : (ps : List RtcpPacket) → AreUnpadded ps → AreJoined ps
joined_alone [] each = tt
joined_alone (p ∷ []) each = each.0
joined_alone (p ∷ (q ∷ ps)) each = (each.0, each.1, joined_alone (q ∷ ps) each.2)

joined_front : (ps qs : List RtcpPacket) → AreUnpadded ps → 0 < length qs → AreJoined qs → AreJoined (ps ++ qs)
joined_front [] qs each some joined = joined
joined_front (p ∷ []) [] each some joined = absurd (omega arith)
joined_front (p ∷ []) (q ∷ qs) each some joined = (each.0, each.1, joined)
joined_front (p ∷ (r ∷ ps)) qs each some joined = (each.0, each.1, joined_front (r ∷ ps) qs each.2 some joined)

pub reads_alone : (ps : List RtcpPacket) → AreUnpadded ps → 0 < length ps → ReadsRtcp (flat_map packet_bytes ps) ps
reads_alone ps each some = record { some = some; joined = joined_alone ps each; bytes_are = refl }

pub reads_front : (ps qs : List RtcpPacket) (datagram : List ℕ) → AreUnpadded ps → ReadsRtcp datagram qs → ReadsRtcp (flat_map packet_bytes ps ++ datagram) (ps ++ qs)
reads_front ps qs datagram each h = record {
  some = let all = length-append ps qs in let more : 0 < length qs = h.some in omega arith;
  joined = joined_front ps qs each h.some h.joined;
  bytes_are = ap (λ y. flat_map packet_bytes ps ++ y) h.bytes_are ∙ sym (flat_map-append packet_bytes ps qs);
}

pub reads_written : (p : RtcpPacket) (content : Content) (appended datagram : List ℕ) (qs : List RtcpPacket) → Appends [] appended p content → ReadsRtcp datagram qs → ReadsRtcp (appended ++ datagram) (p ∷ qs)
reads_written p content appended datagram qs a h =
    let P : List ℕ → Type 0 = λ y. ReadsRtcp y (p ∷ qs) in
    subst P (ap (λ y. y ++ datagram) (append-nil (packet_bytes p) ∙ sym a.bytes_are)) (reads_front (p ∷ []) qs datagram (a.whole, a.no_padding, tt) h)

-- ---- one way to read chunks

same_front : (a b c d : List ℕ) → length a ≡ length b → a ++ c ≡ b ++ d → a ≡ b
same_front a b c d long e = sym (take_at a c (length a) refl) ∙ ap (take (length a)) e ∙ take_at b d (length a) (sym long)

same_behind : (a b c d : List ℕ) → length a ≡ length b → a ++ c ≡ b ++ d → c ≡ d
same_behind a b c d long e = sym (drop_at a c (length a) refl) ∙ ap (drop (length a)) e ∙ drop_at b d (length a) (sym long)

same_head : (x y : ℕ) (xs ys : List ℕ) → x ∷ xs ≡ y ∷ ys → x ≡ y
same_head x y xs ys e = cc

same_tail : (x y : ℕ) (xs ys : List ℕ) → x ∷ xs ≡ y ∷ ys → xs ≡ ys
same_tail x y xs ys e = cc

-- the items, and what stands after the zero byte
same_items : (is js : List Item) (r s : List ℕ) → AreItems is → AreItems js → flat_map item_bytes is ++ (0 ∷ r) ≡ flat_map item_bytes js ++ (0 ∷ s) → (is ≡ js) × (r ≡ s)
same_items [] [] r s hi hj e = (refl, same_tail _ _ _ _ e)
same_items [] (j ∷ js) r s hi hj e = let some : 0 < j.kind = hj.0 in let none = same_head _ _ _ _ e in absurd (omega arith)
same_items (i ∷ is) [] r s hi hj e = let some : 0 < i.kind = hi.0 in let none = same_head _ _ _ _ e in absurd (omega arith)
same_items (i ∷ is) (j ∷ js) r s hi hj e =
    let kind : i.kind ≡ j.kind = same_head _ _ _ _ e in
    let behind = same_tail _ _ _ _ e in
    let long : length i.text ≡ length j.text = same_head _ _ _ _ behind in
    let texts : i.text ++ (flat_map item_bytes is ++ (0 ∷ r)) ≡ j.text ++ (flat_map item_bytes js ++ (0 ∷ s)) =
    sym (append_assoc i.text (flat_map item_bytes is) (0 ∷ r)) ∙ same_tail _ _ _ _ behind ∙ append_assoc j.text (flat_map item_bytes js) (0 ∷ s) in
    let text = same_front i.text j.text _ _ long texts in
    let others = same_items is js r s hi.1 hj.1 (same_behind i.text j.text _ _ long texts) in
    let item : i ≡ j = ap₂ (λ (k : ℕ) (t : List ℕ). record { kind = k; text = t }) kind text in
    (ap₂ (λ (x : Item) (xs : List Item). x ∷ xs) item others.0, others.1)

same_filling : (a b s i : ℕ) → a < 4 → b < 4 → (4 + (i + suc a)) % 4 ≡ 0 → (4 + (i + suc b)) % 4 ≡ 0 → a ≡ b
same_filling a b s i p q e f = omega arith

chunk_size : (c : Chunk) → IsChunk c → (4 + (length (flat_map item_bytes c.items) + suc (length c.filling))) % 4 ≡ 0
chunk_size c h =
    let items = flat_map item_bytes c.items in
    let source : length c.source ≡ 4 = h.source in
    let all : length (chunk_bytes c) ≡ length c.source + length (items ++ (0 ∷ c.filling)) = length-append c.source (items ++ (0 ∷ c.filling)) in
    let rest : length (items ++ (0 ∷ c.filling)) ≡ length items + suc (length c.filling) = length-append items (0 ∷ c.filling) in
    let size : length (chunk_bytes c) ≡ 4 + (length items + suc (length c.filling)) = omega arith in
    ap (λ (n : ℕ). n % 4) (sym size) ∙ h.whole

chunk_parts : (c : Chunk) (rest : List ℕ) → chunk_bytes c ++ rest ≡ c.source ++ (flat_map item_bytes c.items ++ (0 ∷ (c.filling ++ rest)))
chunk_parts c rest = append_assoc c.source (flat_map item_bytes c.items ++ (0 ∷ c.filling)) rest ∙ ap (λ y. c.source ++ y) (append_assoc (flat_map item_bytes c.items) (0 ∷ c.filling) rest)

made_of : (s t : List ℕ) (i j : List Item) (f g : List ℕ) → s ≡ t → i ≡ j → f ≡ g
    → ◌≡◌ {A = Chunk} (record { source = s; items = i; filling = f }) (record { source = t; items = j; filling = g })
made_of s t i j f g p q r = cc

same_chunk : (c d : Chunk) (r s : List ℕ) → IsChunk c → IsChunk d → chunk_bytes c ++ r ≡ chunk_bytes d ++ s → (c ≡ d) × (r ≡ s)
same_chunk c d r s hc hd e =
    let parts = sym (chunk_parts c r) ∙ e ∙ chunk_parts d s in
    let long : length c.source ≡ length d.source = hc.source ∙ sym hd.source in
    let source = same_front c.source d.source _ _ long parts in
    let items = same_items c.items d.items (c.filling ++ r) (d.filling ++ s) hc.items hd.items (same_behind c.source d.source _ _ long parts) in
    let sizes : (4 + (length (flat_map item_bytes c.items) + suc (length d.filling))) % 4 ≡ 0 =
    ap (λ (is : List Item). (4 + (length (flat_map item_bytes is) + suc (length d.filling))) % 4) items.0 ∙ chunk_size d hd in
    let filled = same_filling (length c.filling) (length d.filling) 0 (length (flat_map item_bytes c.items)) hc.filling hd.filling (chunk_size c hc) sizes in
    let filling = same_front c.filling d.filling r s filled items.1 in
    let chunk : c ≡ d = made_of c.source d.source c.items d.items c.filling d.filling source items.0 filling in
    (chunk, same_behind c.filling d.filling r s filled items.1)

same_chunks : (cs ds : List Chunk) (r s : List ℕ) → length cs ≡ length ds → AreChunks cs → AreChunks ds → flat_map chunk_bytes cs ++ r ≡ flat_map chunk_bytes ds ++ s → cs ≡ ds
same_chunks [] [] r s long hc hd e = refl
same_chunks [] (d ∷ ds) r s long hc hd e = absurd (omega arith)
same_chunks (c ∷ cs) [] r s long hc hd e = absurd (omega arith)
same_chunks (c ∷ cs) (d ∷ ds) r s long hc hd e =
    let parts = sym (append_assoc (chunk_bytes c) (flat_map chunk_bytes cs) r) ∙ e ∙ append_assoc (chunk_bytes d) (flat_map chunk_bytes ds) s in
    let first = same_chunk c d (flat_map chunk_bytes cs ++ r) (flat_map chunk_bytes ds ++ s) hc.0 hd.0 parts in
    let others = same_chunks cs ds r s (omega arith) hc.1 hd.1 first.1 in
    ap₂ (λ (x : Chunk) (xs : List Chunk). x ∷ xs) first.0 others

pub one_reading : (n : ℕ) (body : List ℕ) (a b : HasChunks n body) → a.chunks ≡ b.chunks
one_reading n body a b = same_chunks a.chunks b.chunks a.extension b.extension (a.count ∙ sym b.count) a.each b.each (sym a.bytes_are ∙ b.bytes_are)
