-- Datagrams that are RTP packets.
use Rattle.std.proofs.Common.{◌≡◌, ◌≢◌, ℕ, ◌+◌, ◌-◌, ◌*◌, ◌/◌, ◌%◌, ◌^◌, ◌<◌, ◌≤◌, ◌⊎◌, inl, inr, ⊎_elim, Bool, true, false, List, [], ◌∷◌, ◌++◌, length, drop, slice_index, refl, sym, ap, subst, ◌∙◌, arith, length-append, length-drop}
use Rattle.std.proofs.lemmas.Bool.{cases_lt}
use Rattle.std.proofs.lemmas.Bool.Decides.{nat_tests, eqb_tells}
use Rattle.std.proofs.lemmas.List.{get_or-drop, drop-drop}
use Rattle.std.specs.Prelude.{if◌then◌else◌, ◌==◌, ◌&&◌, ◌||◌, not, nat_le, nat_lt}
use Rattle.byteorder.specs.Endian.{big_number}
use Rattle.rtp_packet.specs.declared.fault.RtpFault.{RtpFault}
use Rattle.rtp_packet.specs.declared.fault.RtpFault.TheVariants.{Short, Version, CsrcShort, ExtensionShort, Padding, Room}
use Rattle.rtp_packet.specs.Fault.{HasRtpFault, IsNoCount, csrc_end, extension_end}
use Rattle.rtp_packet.specs.Grammar.{RtpPacket, ReadsRtp, IsPadding, bit_of, fixed_bytes, body_bytes, first_byte, second_byte, bytes_of, with_address}
use Rattle.rtp_packet.proofs.PacketLemmas.{laid_out}
use Rattle.rtp_packet.proofs.PartLemmas.{count_of_padding}
use Rattle.shared_packet.specs.Rtp.{is_rtp, is_padded, padding_of, sequence_number, payload_octets}
use Rattle.shared_packet.specs.Readdressed.{readdressed_bytes}
use Rattle.shared_packet.proofs.ReaddressedLemmas.{length-readdressed, first-readdressed, behind-readdressed}

-- ---- tests

above_zero : (n : ℕ) → 0 < n → nat_lt 0 n ≡ true
above_zero n h = grind (arith, nat_tests)

within : (m n : ℕ) → m ≤ n → nat_le m n ≡ true
within m n h = grind (arith, nat_tests)

beyond : (m n : ℕ) → n < m → nat_le m n ≡ false
beyond m n h = grind (arith, nat_tests)

same_number : (m n : ℕ) → m ≡ n → (m == n) ≡ true
same_number m n h = grind (arith, nat_tests)

other_number : (m n : ℕ) → m ≢ n → (m == n) ≡ false
other_number m n h = ⊎_elim (λ e. absurd (h e.1)) (λ e. e.0) (eqb_tells m n)

bit_is : (b : Bool) → (bit_of b == 1) ≡ b
bit_is true = refl
bit_is false = refl

excluded : (b : Bool) → (not b || b) ≡ true
excluded true = refl
excluded false = refl

no_right : (a b : Bool) → b ≡ false → (a && b) ≡ false
no_right true b h = h
no_right false b h = refl

-- ---- a packet

-- the last byte of a datagram counts its padding
padding_counts : (d payload padding : List ℕ) (e : ℕ) → slice_index d 0 / 32 % 2 ≡ bit_of (nat_lt 0 (length padding))
    → e + length (payload ++ padding) ≡ length d → drop e d ≡ payload ++ padding → IsPadding padding → padding_of d ≡ length padding
padding_counts d payload [] e bit size tail valid =
    let off : slice_index d 0 / 32 % 2 ≡ 0 = bit in
    rw off refl
padding_counts d payload (v ∷ y) e bit size tail valid =
    let on : slice_index d 0 / 32 % 2 ≡ 1 = bit ∙ ap bit_of (above_zero (length (v ∷ y)) (omega arith)) in
    let n = length (payload ++ v ∷ y) - 1 in
    let joined = length-append payload (v ∷ y) in
    let place : e + n ≡ length d - 1 = omega arith in
    let count = count_of_padding payload (v ∷ y) valid (omega arith) in
    let last : slice_index d (length d - 1) ≡ length (v ∷ y) =
    sym (ap (λ (k : ℕ). slice_index d k) place) ∙ sym (get_or-drop e d n 0) ∙ ap (λ (l : List ℕ). slice_index l n) tail ∙ count in
    rw on last

padding_is : (d : List ℕ) (p : RtpPacket) → ReadsRtp d p → padding_of d ≡ length p.padding
padding_is d p reads =
    let l = laid_out d p reads in
    padding_counts d p.payload p.padding (extension_end d) l.padded l.end l.tail reads.valid.padding

-- a packet is one
pub reads_rtp : (d : List ℕ) (p : RtpPacket) → ReadsRtp d p → is_rtp d ≡ true
unfolding is_rtp
reads_rtp d p reads =
    let l = laid_out d p reads in
    let count = padding_is d p reads in
    let joined = length-append p.payload p.padding in
    let end = l.end in
    let a = within 12 (length d) l.whole in
    let b = same_number (slice_index d 0 / 64) 2 l.version in
    let c = within (extension_end d + padding_of d) (length d) (omega arith) in
    let padded : is_padded d ≡ nat_lt 0 (length p.padding) =
    ap (λ (x : ℕ). x == 1) l.padded ∙ bit_is (nat_lt 0 (length p.padding)) in
    let some : nat_lt 0 (padding_of d) ≡ nat_lt 0 (length p.padding) = ap (nat_lt 0) count in
    let e : (not (is_padded d) || nat_lt 0 (padding_of d)) ≡ true =
    ap (λ (x : Bool). not x || nat_lt 0 (padding_of d)) padded ∙ ap (λ (x : Bool). not (nat_lt 0 (length p.padding)) || x) some
    ∙ excluded (nat_lt 0 (length p.padding)) in
    rw (a, b, c, e) refl

-- the octets of a packet's payload
pub payload_read : (d : List ℕ) (p : RtpPacket) → ReadsRtp d p → payload_octets d ≡ length p.payload
unfolding payload_octets
payload_read d p reads =
    let count = padding_is d p reads in
    let joined = length-append p.payload p.padding in
    let end = (laid_out d p reads).end in
    let left : length d - (extension_end d + padding_of d) ≡ length p.payload = omega arith in
    rw (reads_rtp d p reads) left

number_back : (a b s t u : ℕ) (body : List ℕ) → s < 2 ^ 16 → big_number 2 (drop 2 (fixed_bytes a b s t u ++ body)) ≡ s
unfolding fixed_bytes
number_back a b s t u body h = omega arith

-- the sequence number of a packet
pub number_read : (d : List ℕ) (p : RtpPacket) → ReadsRtp d p → sequence_number d ≡ p.sequence_number
unfolding sequence_number
number_read d p reads =
    ap (λ (l : List ℕ). big_number 2 (drop 2 l)) reads.bytes
    ∙ number_back (first_byte p) (second_byte p) p.sequence_number p.timestamp p.ssrc (body_bytes p) reads.valid.sequence_number

rewritten : (a b s t u n v : ℕ) (body : List ℕ)
    → readdressed_bytes v n (fixed_bytes a b s t u ++ body) ≡ fixed_bytes a b n t v ++ body
unfolding fixed_bytes readdressed_bytes
rewritten a b s t u n v body = refl

-- a packet's bytes under another source and number
pub readdressed_read : (d : List ℕ) (p : RtpPacket) (v n : ℕ) → ReadsRtp d p → readdressed_bytes v n d ≡ bytes_of (with_address v n p)
readdressed_read d p v n reads =
    ap (readdressed_bytes v n) reads.bytes
    ∙ rewritten (first_byte p) (second_byte p) p.sequence_number p.timestamp p.ssrc n v (body_bytes p)

first_holds : (a b : Bool) → (a && b) ≡ true → a ≡ true
first_holds true b h = refl
first_holds false b h = h

at_least : (m n : ℕ) → nat_le m n ≡ true → m ≤ n
at_least m n h = grind (arith, nat_tests)

-- what is a packet has a whole fixed header
pub header_of : (d : List ℕ) → is_rtp d ≡ true → 12 ≤ length d
unfolding is_rtp
header_of d h = at_least 12 (length d) (first_holds _ _ h)

-- ---- no packet

pub no_octets : (d : List ℕ) → is_rtp d ≡ false → 0 ≡ payload_octets d
unfolding payload_octets
no_octets d h = rw h refl

csrcs_before : (d : List ℕ) → csrc_end d ≤ extension_end d
csrcs_before d = grind (arith, nat_tests)

-- a count of padding that doesn't count what is there
miscounted : (e n x : ℕ) → (n ≤ e) ⊎ ((x ≡ 0) ⊎ (n < e + x)) → e ≤ n → (nat_le (e + x) n && nat_lt 0 x) ≡ false
miscounted e n x h low = grind (arith, nat_tests, h)

-- the last byte, after a place
last_behind : (d : List ℕ) (e : ℕ) → e < length d → slice_index (drop e d) (length (drop e d) - 1) ≡ slice_index d (length d - 1)
last_behind d e h =
    let left = length-drop e d in
    let place : e + (length (drop e d) - 1) ≡ length d - 1 = omega arith in
    get_or-drop e d (length (drop e d) - 1) 0 ∙ ap (λ (k : ℕ). slice_index d k) place

no_count : (d : List ℕ) (e : ℕ) → e ≤ length d → IsNoCount (drop e d)
    → (length d ≤ e) ⊎ ((slice_index d (length d - 1) ≡ 0) ⊎ (length d < e + slice_index d (length d - 1)))
no_count d e h none =
    let left = length-drop e d in
    ⊎_elim
    (λ (below : e < length d).
    let last = last_behind d e below in
    elim none [
      | inl empty ↦ inl (omega arith)
      | inr other ↦ elim other [ inl zero_count ↦ inr (inl (sym last ∙ zero_count)) | inr above ↦ inr (inr (omega arith)) ]
    ])
    (λ (above : length d ≤ e). inl above)
    (cases_lt e (length d))

-- ---- another source and sequence number

-- the place after the extension, by the first byte and what stands after the fixed header
end_by : ℕ → List ℕ → ℕ
end_by first behind =
    if (first / 16 % 2) == 1
    then 12 + 4 * (first % 16) + (4 + 4 * big_number 2 (drop (4 * (first % 16) + 2) behind))
    else 12 + 4 * (first % 16)

end_is : (d : List ℕ) → extension_end d ≡ end_by (slice_index d 0) (drop 12 d)
unfolding end_by
end_is d =
    let c = 4 * (slice_index d 0 % 16) in
    let place : 12 + c + 2 ≡ 12 + (c + 2) = omega arith in
    let words : drop (csrc_end d + 2) d ≡ drop (c + 2) (drop 12 d) = ap (λ (n : ℕ). drop n d) place ∙ sym (drop-drop (c + 2) 12 d) in
    ap (λ (l : List ℕ). if (slice_index d 0 / 16 % 2) == 1 then csrc_end d + (4 + 4 * big_number 2 l) else csrc_end d) words

-- the octets of the payload, by the length, the first byte, the place after the extension, and the last byte
octets_by : ℕ → ℕ → ℕ → ℕ → ℕ
octets_by size first end last =
    let padded = (first / 32 % 2) == 1 in
    let padding = if padded then last else 0 in
    if nat_le 12 size && ((first / 64 == 2) && (nat_le (end + padding) size && (not padded || nat_lt 0 padding)))
    then size - (end + padding)
    else 0

octets_is : (d : List ℕ) → payload_octets d ≡ octets_by (length d) (slice_index d 0) (extension_end d) (slice_index d (length d - 1))
unfolding payload_octets is_rtp octets_by
octets_is d = refl

if_none : (b : Bool) (n : ℕ) → n ≡ 0 → (if b then n else 0) ≡ 0
if_none true n h = h
if_none false n h = refl

-- of a fixed header alone there is no payload
no_payload : (d : List ℕ) → length d ≤ 12 → payload_octets d ≡ 0
unfolding payload_octets
no_payload d h =
    let order = csrcs_before d in
    if_none (is_rtp d) (length d - (extension_end d + padding_of d)) (omega (arith, order, h))

same_octets : (d e : List ℕ) → length e ≡ length d → slice_index e 0 ≡ slice_index d 0 → drop 12 e ≡ drop 12 d → 12 < length d
    → payload_octets e ≡ payload_octets d
same_octets d e size first behind more =
    let end : extension_end e ≡ extension_end d = end_is e ∙ ap (λ (n : ℕ). end_by n (drop 12 e)) first ∙ ap (end_by (slice_index d 0)) behind ∙ sym (end_is d) in
    let last : slice_index e (length e - 1) ≡ slice_index d (length d - 1) =
    sym (last_behind e 12 (omega (arith, size, more))) ∙ ap (λ (l : List ℕ). slice_index l (length l - 1)) behind ∙ last_behind d 12 more in
    octets_is e
    ∙ ap (λ (n : ℕ). octets_by n (slice_index e 0) (extension_end e) (slice_index e (length e - 1))) size
    ∙ ap (λ (n : ℕ). octets_by (length d) n (extension_end e) (slice_index e (length e - 1))) first
    ∙ ap (λ (n : ℕ). octets_by (length d) (slice_index d 0) n (slice_index e (length e - 1))) end
    ∙ ap (octets_by (length d) (slice_index d 0) (extension_end d)) last
    ∙ sym (octets_is d)

-- the octets of the payload don't hang on the source and the sequence number
pub octets-readdressed : (u s : ℕ) (d : List ℕ) → 12 ≤ length d → payload_octets (readdressed_bytes u s d) ≡ payload_octets d
octets-readdressed u s d h =
    let size = length-readdressed u s d h in
    ⊎_elim
    (λ (more : 12 < length d). same_octets d (readdressed_bytes u s d) size (first-readdressed u s d h) (behind-readdressed u s d h) more)
    (λ (few : length d ≤ 12). no_payload (readdressed_bytes u s d) (omega (arith, size, few)) ∙ sym (no_payload d few))
    (cases_lt 12 (length d))

-- a datagram with a fault is no packet
pub faulty : (d : List ℕ) (fault : RtpFault) → HasRtpFault d fault → is_rtp d ≡ false
unfolding is_rtp
faulty d Short h = rw (beyond 12 (length d) h) refl
faulty d Version h = no_right _ _ (ap (λ (x : Bool). x && (nat_le (extension_end d + padding_of d) (length d) && (not (is_padded d) || nat_lt 0 (padding_of d)))) (other_number (slice_index d 0 / 64) 2 h.1))
faulty d CsrcShort h =
    let order = csrcs_before d in
    let over = h.1 in
    no_right _ _ (no_right _ _ (ap (λ (x : Bool). x && (not (is_padded d) || nat_lt 0 (padding_of d))) (beyond (extension_end d + padding_of d) (length d) (omega arith))))
faulty d ExtensionShort h =
    let over = h.2 in
    no_right _ _ (no_right _ _ (ap (λ (x : Bool). x && (not (is_padded d) || nat_lt 0 (padding_of d))) (beyond (extension_end d + padding_of d) (length d) (omega arith))))
faulty d Padding h =
    let last = slice_index d (length d - 1) in
    let on : is_padded d ≡ true = same_number (slice_index d 0 / 32 % 2) 1 h.3 in
    let none = no_count d (extension_end d) h.2 h.4 in
    let wrong = miscounted (extension_end d) (length d) last none h.2 in
    let Refused : Bool → Type 0 = λ b.
    (nat_le (extension_end d + (if b then last else 0)) (length d) && (not b || nat_lt 0 (if b then last else 0))) ≡ false in
    no_right _ _ (no_right _ _ (subst Refused (sym on) wrong))
faulty d Room h = absurd h
