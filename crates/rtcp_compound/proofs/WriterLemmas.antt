-- What the writers append is a packet, and says what was written.
use Rattle.std.proofs.Common.{◌≡◌, ◌∙◌, ℕ, suc, ◌+◌, ◌-◌, ◌*◌, ◌/◌, ◌%◌, ◌^◌, ◌<◌, ◌≤◌, ◌≤ℤ◌, inl, ℤ, pos, negsuc, List, [], ◌∷◌, ◌++◌, length, map, take, get_or, replicate, Result, Ok, Err, nat_lt, refl, sym, ap, ap₂, subst, arith, length-append, append_assoc, append-nil}
use Rattle.std.specs.List.{All, flat_map}
use Rattle.std.specs.Result.{OnErr}
use Rattle.std.specs.declared.alloc.AllocError.{AllocError}
use Rattle.std.proofs.lemmas.Bool.{cond-true, cond-false, lt-ltb, le-ltb}
use Rattle.std.proofs.lemmas.Int.{ints}
use Rattle.std.proofs.lemmas.List.{flat_map_more, map_more, take_all, length-replicate}
use Rattle.std.proofs.lemmas.List.Elements.{All-push}
use Rattle.byteorder.specs.Endian.{big_bytes, twos_complement}
use Rattle.byteorder.specs.Numbers.{big_number-reads_back}
use Rattle.rtcp_compound.specs.Content.{Content, sender_report, receiver_report, description, goodbye, packet_content, sources_in}
use Rattle.rtcp_compound.specs.Grammar.{packet_bytes, IsPacket, IsBody, chunk_bytes, IsChunk, HasChunks}
use Rattle.rtcp_compound.specs.Report.{ReportBlock, IsReportBlock, block_bytes, block_in, blocks_in, lost_word}
use Rattle.rtcp_compound.specs.Written.{plain_packet, sr_packet, rr_packet, cname_chunk, cname_packet, bye_packet, Appends}
use Rattle.rtcp_compound.proofs.EntryLemmas.{same_block, blocks_more, blocks_none, sources_more, sources_none}

-- ---- appending piece by piece

pub puts_more : (old mid new a b : List ℕ) → mid ≡ old ++ a → new ≡ mid ++ b → new ≡ old ++ (a ++ b)
puts_more old mid new a b p q = q ∙ ap (λ y. y ++ b) p ∙ append_assoc old a b

-- the parts of a block, one after the other
pub block_put : (b : ReportBlock) (o o1 o2 o3 o4 o5 o6 o7 : List ℕ) → o1 ≡ o ++ big_bytes 4 b.source → o2 ≡ o1 ++ (b.fraction ∷ []) → o3 ≡ o2 ++ big_bytes 3 (lost_word b.lost)
    → o4 ≡ o3 ++ big_bytes 4 b.highest → o5 ≡ o4 ++ big_bytes 4 b.jitter → o6 ≡ o5 ++ big_bytes 4 b.last_sr → o7 ≡ o6 ++ big_bytes 4 b.delay
    → o7 ≡ o ++ block_bytes b
block_put b o o1 o2 o3 o4 o5 o6 o7 p1 p2 p3 p4 p5 p6 p7 =
    let a2 = big_bytes 4 b.source ++ (b.fraction ∷ []) in
    let a3 = a2 ++ big_bytes 3 (lost_word b.lost) in
    let a4 = a3 ++ big_bytes 4 b.highest in
    let a5 = a4 ++ big_bytes 4 b.jitter in
    let a6 = a5 ++ big_bytes 4 b.last_sr in
    let e2 = puts_more o o1 o2 (big_bytes 4 b.source) (b.fraction ∷ []) p1 p2 in
    let e3 = puts_more o o2 o3 a2 (big_bytes 3 (lost_word b.lost)) e2 p3 in
    let e4 = puts_more o o3 o4 a3 (big_bytes 4 b.highest) e3 p4 in
    let e5 = puts_more o o4 o5 a4 (big_bytes 4 b.jitter) e4 p5 in
    let e6 = puts_more o o5 o6 a5 (big_bytes 4 b.last_sr) e5 p6 in
    puts_more o o6 o7 a6 (big_bytes 4 b.delay) e6 p7

-- one entry more of a list that is appended
pub entry_put : {X Y : Type 0} (f : X → Y) (g : Y → List ℕ) (old mid new : List ℕ) (xs : List X) (i : ℕ) (x d : X) → i < length xs → x ≡ get_or xs i d
    → mid ≡ old ++ flat_map g (map f (take i xs)) → new ≡ mid ++ g (f x) → new ≡ old ++ flat_map g (map f (take (i + 1) xs))
entry_put f g old mid new xs i x d lt is p q =
    let more = map_more f xs i d lt in
    q ∙ ap (λ y. y ++ g (f x)) p ∙ flat_map_more g old (map f (take i xs)) (f x)
    ∙ ap (λ y. old ++ flat_map g (map f (take i xs) ++ f y ∷ [])) is ∙ ap (λ ys. old ++ flat_map g ys) (sym more)

pub entry_holds : {X Y : Type 0} (P : Y → Type 0) (f : X → Y) (xs : List X) (i : ℕ) (x d : X) → i < length xs → x ≡ get_or xs i d
    → All P (map f (take i xs)) → P (f x) → All P (map f (take (i + 1) xs))
entry_holds {Y = Y} P f xs i x d lt is all here =
    let Q : List Y → Type 0 = λ ys. All P ys in
    subst Q (ap (λ y. map f (take i xs) ++ f y ∷ []) is ∙ sym (map_more f xs i d lt)) (All-push P (map f (take i xs)) (f x) all here)

-- ---- blocks and sources, written and read

lost_fits : (z : ℤ) → negsuc 8388607 ≤ℤ z → z ≤ℤ pos 8388607 → lost_word z < 16777216
lost_fits (pos n) low high = omega (arith, ints)
lost_fits (negsuc n) low high = omega (arith, ints)

lost_again : (z : ℤ) → negsuc 8388607 ≤ℤ z → z ≤ℤ pos 8388607 → twos_complement 3 (lost_word z) ≡ z
lost_again (pos n) low high = cond-true (nat_lt n 8388608) _ _ (lt-ltb n 8388608 (omega (arith, ints)))
lost_again (negsuc n) low high =
    let within : n ≤ 8388607 = omega (arith, ints) in
    cond-false (nat_lt (16777215 - n) 8388608) _ _ (le-ltb (16777215 - n) 8388608 (omega arith)) ∙ omega (arith, ints)

block_again : (b : ReportBlock) (rest : List ℕ) → IsReportBlock b → block_in (block_bytes b ++ rest) ≡ b
unfolding block_in
block_again b rest h =
    same_block _ _ _ _ _ _ _ _ _ _ _ _ _ _ (big_number-reads_back 4 b.source [] h.source) refl
    (ap (twos_complement 3) (big_number-reads_back 3 (lost_word b.lost) [] (lost_fits b.lost h.lost_low h.lost_high)) ∙ lost_again b.lost h.lost_low h.lost_high)
    (big_number-reads_back 4 b.highest [] h.highest) (big_number-reads_back 4 b.jitter [] h.jitter)
    (big_number-reads_back 4 b.last_sr [] h.last_sr) (big_number-reads_back 4 b.delay [] h.delay)

blocks_again : (bs : List ReportBlock) → All IsReportBlock bs → blocks_in (flat_map block_bytes bs) ≡ bs
blocks_again [] each = blocks_none [] (omega arith)
blocks_again (b ∷ bs) each =
    blocks_more (block_bytes b ++ flat_map block_bytes bs) (omega arith)
    ∙ ap₂ (λ (x : ReportBlock) (y : List ReportBlock). x ∷ y) (block_again b (flat_map block_bytes bs) (each 0 b (omega arith)))
    (blocks_again bs (λ k d lt. each (suc k) d (omega arith)))

length-blocks : (bs : List ReportBlock) → length (flat_map block_bytes bs) ≡ 24 * length bs
length-blocks [] = refl
length-blocks (b ∷ bs) = let rest = length-blocks bs in omega arith

sources_again : (ss : List ℕ) → All (λ s. s < 2 ^ 32) ss → sources_in (flat_map (big_bytes 4) ss) ≡ ss
sources_again [] each = sources_none [] (omega arith)
sources_again (s ∷ ss) each =
    sources_more (big_bytes 4 s ++ flat_map (big_bytes 4) ss) (omega arith)
    ∙ ap₂ (λ (x : ℕ) (y : List ℕ). x ∷ y) (big_number-reads_back 4 s [] (each 0 s (omega arith)))
    (sources_again ss (λ k d lt. each (suc k) d (omega arith)))

length-sources : (ss : List ℕ) → length (flat_map (big_bytes 4) ss) ≡ 4 * length ss
length-sources [] = refl
length-sources (s ∷ ss) = let rest = length-sources ss in omega arith

-- ---- a header before a body

header_is : (count kind words : ℕ) (body : List ℕ) → words < 65536 → length body ≡ 4 * words
    → (128 + count) ∷ (kind ∷ (big_bytes 2 words ++ body)) ≡ packet_bytes (plain_packet count kind body)
header_is count kind words body fits long =
    let high : words / 256 % 256 ≡ (length body + 0) / 4 / 256 = omega arith in
    let low : words % 256 ≡ (length body + 0) / 4 % 256 = omega arith in
    ap₂ (λ (x y : ℕ). (128 + count) ∷ (kind ∷ (x ∷ (y ∷ body)))) high low
    ∙ ap (λ y. (128 + count) ∷ (kind ∷ (((length body + 0) / 4 / 256) ∷ (((length body + 0) / 4 % 256) ∷ y)))) (sym (append-nil body))

whole_packet : (count kind words : ℕ) (body : List ℕ) → count < 32 → words < 65536 → length body ≡ 4 * words → IsBody kind count body → IsPacket (plain_packet count kind body)
whole_packet count kind words body counted fits long is = record {
  count = counted;
  words = omega arith;
  length_fits = omega arith;
  padding = refl;
  padding_length = refl;
  body = is;
}

pub appended : (old new : List ℕ) (n count kind words : ℕ) (body : List ℕ) (content : Content) → n ≡ count → count < 32 → words < 65536 → length body ≡ 4 * words
    → IsBody kind count body → packet_content (plain_packet count kind body) ≡ content → new ≡ old ++ ((128 + n) ∷ (kind ∷ (big_bytes 2 words ++ body)))
    → Appends old new (plain_packet count kind body) content
appended old new n count kind words body content same counted fits long is says e = record {
  bytes_are = e ∙ ap (λ m. old ++ ((128 + m) ∷ (kind ∷ (big_bytes 2 words ++ body)))) same ∙ ap (λ y. old ++ y) (header_is count kind words body fits long);
  whole = whole_packet count kind words body counted fits long is;
  no_padding = refl;
  says = says;
}

packet_length : (count kind : ℕ) (body : List ℕ) → length (packet_bytes (plain_packet count kind body)) ≡ 4 + length body
packet_length count kind body = let same = ap length (append-nil body) in omega arith

-- ---- each packet

same_sr : (s s' n n' r r' p p' o o' : ℕ) (b b' : List ReportBlock) → s ≡ s' → n ≡ n' → r ≡ r' → p ≡ p' → o ≡ o' → b ≡ b'
    → sender_report s n r p o b ≡ sender_report s' n' r' p' o' b'
same_sr s s' n n' r r' p p' o o' b b' e f g h i j = cc

blocks_taken : (bs : List ReportBlock) → All IsReportBlock bs → blocks_in (take (24 * length bs) (flat_map block_bytes bs)) ≡ bs
blocks_taken bs each = ap blocks_in (take_all (24 * length bs) (flat_map block_bytes bs) (omega (arith, length-blocks bs))) ∙ blocks_again bs each

pub sr_written : (old new : List ℕ) (sender ntp rtp packets octets n words : ℕ) (bs : List ReportBlock) → n ≡ length bs → n ≤ 31 → words ≡ 6 + 6 * n
    → sender < 2 ^ 32 → ntp < 2 ^ 64 → rtp < 2 ^ 32 → packets < 2 ^ 32 → octets < 2 ^ 32 → All IsReportBlock bs
    → new ≡ old ++ ((128 + n) ∷ (200 ∷ (big_bytes 2 words
    ++ (big_bytes 4 sender ++ (big_bytes 8 ntp ++ (big_bytes 4 rtp ++ (big_bytes 4 packets ++ (big_bytes 4 octets ++ flat_map block_bytes bs))))))))
    → Appends old new (sr_packet sender ntp rtp packets octets bs) (sender_report sender ntp rtp packets octets bs)
unfolding sr_packet packet_content
sr_written old new sender ntp rtp packets octets n words bs same few is s t r p o each e =
    let long = length-blocks bs in
    appended old new n (length bs) 200 words _ _ same (omega arith) (omega arith) (omega arith)
    (record { reports = record { sender_report = λ _. omega arith; receiver_report = λ k. absurd (omega arith) }; description = λ k. absurd (omega arith); goodbye = λ k. absurd (omega arith) })
    (same_sr _ _ _ _ _ _ _ _ _ _ _ _ (big_number-reads_back 4 sender [] s) (big_number-reads_back 8 ntp [] t) (big_number-reads_back 4 rtp [] r)
    (big_number-reads_back 4 packets [] p) (big_number-reads_back 4 octets [] o) (blocks_taken bs each)) e

pub sr_length : (sender ntp rtp packets octets : ℕ) (bs : List ReportBlock) → length (packet_bytes (sr_packet sender ntp rtp packets octets bs)) ≡ 28 + 24 * length bs
unfolding sr_packet
sr_length sender ntp rtp packets octets bs =
    let long = length-blocks bs in
    packet_length (length bs) 200 (big_bytes 4 sender ++ (big_bytes 8 ntp ++ (big_bytes 4 rtp ++ (big_bytes 4 packets ++ (big_bytes 4 octets ++ flat_map block_bytes bs))))) ∙ omega arith

pub rr_written : (old new : List ℕ) (sender n words : ℕ) (bs : List ReportBlock) → n ≡ length bs → n ≤ 31 → words ≡ 1 + 6 * n → sender < 2 ^ 32 → All IsReportBlock bs
    → new ≡ old ++ ((128 + n) ∷ (201 ∷ (big_bytes 2 words ++ (big_bytes 4 sender ++ flat_map block_bytes bs))))
    → Appends old new (rr_packet sender bs) (receiver_report sender bs)
unfolding rr_packet packet_content
rr_written old new sender n words bs same few is s each e =
    let long = length-blocks bs in
    appended old new n (length bs) 201 words _ _ same (omega arith) (omega arith) (omega arith)
    (record { reports = record { sender_report = λ k. absurd (omega arith); receiver_report = λ _. omega arith }; description = λ k. absurd (omega arith); goodbye = λ k. absurd (omega arith) })
    (ap₂ receiver_report (big_number-reads_back 4 sender [] s) (blocks_taken bs each)) e

pub rr_length : (sender : ℕ) (bs : List ReportBlock) → length (packet_bytes (rr_packet sender bs)) ≡ 8 + 24 * length bs
unfolding rr_packet
rr_length sender bs = let long = length-blocks bs in packet_length (length bs) 201 (big_bytes 4 sender ++ flat_map block_bytes bs) ∙ omega arith

sources_taken : (ss : List ℕ) → All (λ s. s < 2 ^ 32) ss → sources_in (take (4 * length ss) (flat_map (big_bytes 4) ss)) ≡ ss
sources_taken ss each = ap sources_in (take_all (4 * length ss) (flat_map (big_bytes 4) ss) (omega (arith, length-sources ss))) ∙ sources_again ss each

pub bye_written : (old new : List ℕ) (n words : ℕ) (ss : List ℕ) → n ≡ length ss → n ≤ 31 → words ≡ n → All (λ s. s < 2 ^ 32) ss
    → new ≡ old ++ ((128 + n) ∷ (203 ∷ (big_bytes 2 words ++ flat_map (big_bytes 4) ss)))
    → Appends old new (bye_packet ss) (goodbye ss)
unfolding bye_packet packet_content
bye_written old new n words ss same few is each e =
    let long = length-sources ss in
    appended old new n (length ss) 203 words _ _ same (omega arith) (omega arith) (omega arith)
    (record { reports = record { sender_report = λ k. absurd (omega arith); receiver_report = λ k. absurd (omega arith) }; description = λ k. absurd (omega arith); goodbye = λ _. (omega arith, inl long) })
    (ap goodbye (sources_taken ss each)) e

pub bye_length : (ss : List ℕ) → length (packet_bytes (bye_packet ss)) ≡ 4 + 4 * length ss
unfolding bye_packet
bye_length ss = let long = length-sources ss in packet_length (length ss) 203 (flat_map (big_bytes 4) ss) ∙ omega arith

-- a zero byte and the zeros that fill up the word, after so many bytes
pub zeros_behind : ℕ → List ℕ
zeros_behind n = 0 ∷ replicate (3 - n % 4) 0

length-zeros_behind : (n : ℕ) → length (zeros_behind n) ≡ 4 - n % 4
unfolding zeros_behind
length-zeros_behind n =
    let zero : ℕ = 0 in
    let zeros : length (replicate (3 - n % 4) zero) ≡ 3 - n % 4 = length-replicate (3 - n % 4) zero in
    omega arith

-- the bytes of a CNAME's chunk as they are put
chunk_joined : (source : ℕ) (cname : List ℕ) → chunk_bytes (cname_chunk source cname) ≡ big_bytes 4 source ++ (1 ∷ (length cname ∷ (cname ++ zeros_behind (length cname + 2))))
unfolding cname_chunk zeros_behind
chunk_joined source cname = ap (λ y. big_bytes 4 source ++ (1 ∷ (length cname ∷ (y ++ zeros_behind (length cname + 2))))) (append-nil cname)

chunk_length : (source : ℕ) (cname : List ℕ) → length (chunk_bytes (cname_chunk source cname)) ≡ 8 + 4 * ((2 + length cname) / 4)
chunk_length source cname =
    let zeros : length (zeros_behind (length cname + 2)) ≡ 4 - (length cname + 2) % 4 = length-zeros_behind (length cname + 2) in
    let all : length (cname ++ zeros_behind (length cname + 2)) ≡ length cname + length (zeros_behind (length cname + 2)) = length-append cname (zeros_behind (length cname + 2)) in
    let words : 6 + length cname + (4 - (length cname + 2) % 4) ≡ 8 + 4 * ((2 + length cname) / 4) = omega arith in
    ap length (chunk_joined source cname) ∙ omega arith

short_filling : (source : ℕ) (cname : List ℕ) → length ((cname_chunk source cname).filling) < 4
unfolding cname_chunk
short_filling source cname =
    let zero : ℕ = 0 in
    let zeros : length (replicate (3 - (length cname + 2) % 4) zero) ≡ 3 - (length cname + 2) % 4 = length-replicate (3 - (length cname + 2) % 4) zero in
    omega arith

is_cname_chunk : (source : ℕ) (cname : List ℕ) → IsChunk (cname_chunk source cname)
unfolding cname_chunk
is_cname_chunk source cname = record {
  source = refl;
  items = (omega arith, tt);
  filling = short_filling source cname;
  whole = omega (arith, chunk_length source cname);
}

pub cname_written : (old new : List ℕ) (source words : ℕ) (cname : List ℕ) → length cname ≤ 255 → words ≡ 2 + (2 + length cname) / 4
    → new ≡ old ++ (129 ∷ (202 ∷ (big_bytes 2 words ++ (big_bytes 4 source ++ (1 ∷ (length cname ∷ (cname ++ zeros_behind (length cname + 2))))))))
    → Appends old new (cname_packet source cname) (description 1 (chunk_bytes (cname_chunk source cname)))
unfolding cname_packet packet_content
cname_written old new source words cname short is e =
    let body = chunk_bytes (cname_chunk source cname) in
    let long : length body ≡ 8 + 4 * ((2 + length cname) / 4) = chunk_length source cname in
    let chunks : HasChunks 1 body = record {
      chunks = cname_chunk source cname ∷ [];
      extension = [];
      count = refl;
      each = (is_cname_chunk source cname, tt);
      bytes_are = sym (append-nil (body ++ []) ∙ append-nil body);
    } in
    appended old new 1 1 202 words body (description 1 body) refl (omega arith) (omega arith) (omega arith)
    (record { reports = record { sender_report = λ k. absurd (omega arith); receiver_report = λ k. absurd (omega arith) }; description = λ _. chunks; goodbye = λ k. absurd (omega arith) })
    refl (e ∙ ap (λ y. old ++ (129 ∷ (202 ∷ (big_bytes 2 words ++ y)))) (sym (chunk_joined source cname)))

pub cname_length : (source : ℕ) (cname : List ℕ) → length (packet_bytes (cname_packet source cname)) ≡ 12 + 4 * ((2 + length cname) / 4)
unfolding cname_packet
cname_length source cname = let long = chunk_length source cname in packet_length 1 202 (chunk_bytes (cname_chunk source cname)) ∙ omega arith

-- the zeros that are put after so many bytes
pub zeros_put : (n : ℕ) → replicate (4 - n % 4) 0 ≡ zeros_behind n
unfolding zeros_behind
zeros_put n = let one : 4 - n % 4 ≡ suc (3 - n % 4) = omega arith in ap (λ (k : ℕ). replicate k 0) one

-- ---- a refusal

pub on_err : (r : Result (Unit {0}) AllocError) (P : Type 0) → P → OnErr r P
on_err (Ok x) P p = tt
on_err (Err e) P p = p
