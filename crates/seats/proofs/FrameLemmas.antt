-- How long the parts of a packet are, by its bytes.
use Rattle.std.proofs.Common.{◌≡◌, ◌∙◌, ℕ, ◌+◌, ◌-◌, ◌*◌, ◌/◌, ◌%◌, ◌<◌, ◌≤◌, Bool, true, false, List, ◌∷◌, length, take, drop, get_or, slice_index, cond, nat_lt, refl, sym, ap, arith, length-append}
use Rattle.std.specs.Prelude.{◌==◌}
use Rattle.std.proofs.lemmas.Bool.{cond-true, cond-false, eq-eqb, ltb-true, ltb-false, ne_eqb}
use Rattle.std.proofs.lemmas.List.{take_at, take_rest, get_or-append_right}
use Rattle.byteorder.specs.Endian.{big_number}
use Rattle.rtcp_compound.specs.Grammar.{IsPacket, RtcpPacket, packet_bytes}
use Rattle.seats.specs.Frame.{StandsFirst, packet_size, padding_behind}

pub length-packet : (p : RtcpPacket) → length (packet_bytes p) ≡ packet_size p
length-packet p = let all = length-append p.body p.padding in omega arith

pub size_fits : (bytes : List ℕ) (p : RtcpPacket) (rest : List ℕ) → StandsFirst bytes p rest → packet_size p ≤ length bytes
size_fits bytes p rest h =
    let same = ap length h.bytes_are in
    let all = length-append (packet_bytes p) rest in
    let size = length-packet p in
    omega (arith, same, all, size)

-- ---- the header

words_read : (m : ℕ) → m % 4 ≡ 0 → m < 4 * 65536 → 4 * (m / 4 / 256 * 256 + (m / 4 % 256 * 1 + 0) + 1) ≡ 4 + m
words_read m whole fits = omega arith

pub size_read : (bytes : List ℕ) (p : RtcpPacket) (rest : List ℕ) → StandsFirst bytes p rest
    → 4 * (big_number 2 (take (length bytes - 2) (drop 2 bytes)) + 1) ≡ packet_size p
size_read bytes p rest h =
    ap (λ (l : List ℕ). 4 * (big_number 2 l + 1)) (take_rest bytes 2)
    ∙ ap (λ (l : List ℕ). 4 * (big_number 2 (drop 2 l) + 1)) h.bytes_are
    ∙ words_read (length p.body + length p.padding) h.whole.words h.whole.length_fits

first_count : (padded : Bool) (count : ℕ) → count < 32 → (128 + cond padded 32 0 + count) % 32 ≡ count
first_count true count h = omega arith
first_count false count h = omega arith

pub count_read : (bytes : List ℕ) (p : RtcpPacket) (rest : List ℕ) → StandsFirst bytes p rest → slice_index bytes 0 % 32 ≡ p.count
count_read bytes p rest h =
    ap (λ (l : List ℕ). slice_index l 0 % 32) h.bytes_are ∙ first_count (nat_lt 0 (length p.padding)) p.count h.whole.count

pub kind_read : (bytes : List ℕ) (p : RtcpPacket) (rest : List ℕ) → StandsFirst bytes p rest → slice_index bytes 1 ≡ p.kind
kind_read bytes p rest h = ap (λ (l : List ℕ). slice_index l 1) h.bytes_are

-- ---- the padding

first_padded : (padded : Bool) (count : ℕ) → count < 32 → (((128 + cond padded 32 0 + count) / 32 % 2) == 1) ≡ padded
first_padded true count h =
    let bit : (128 + 32 + count) / 32 % 2 ≡ 1 = omega arith in
    eq-eqb _ _ bit
first_padded false count h =
    let bit : (128 + 0 + count) / 32 % 2 ≡ 1 → ⊥ = λ z. absurd (omega arith) in
    ne_eqb _ _ bit

last_read : (p : RtcpPacket) → 0 < length p.padding → slice_index p.padding (length p.padding - 1) ≡ length p.padding
    → slice_index (packet_bytes p) (length (packet_bytes p) - 1) ≡ length p.padding
last_read p some is =
    let front : List ℕ =
    (128 + cond (nat_lt 0 (length p.padding)) 32 0 + p.count) ∷ (p.kind
    ∷ (((length p.body + length p.padding) / 4 / 256)
    ∷ (((length p.body + length p.padding) / 4 % 256) ∷ p.body))) in
    let size = length-packet p in
    let at : length (packet_bytes p) - 1 - (4 + length p.body) ≡ length p.padding - 1 = omega (arith, size) in
    let long : length front ≡ 4 + length p.body = omega arith in
    let behind : 4 + length p.body ≤ length (packet_bytes p) - 1 = omega (arith, size) in
    get_or-append_right front p.padding (4 + length p.body) (length (packet_bytes p) - 1) 0 long behind
    ∙ ap (λ (i : ℕ). get_or p.padding i 0) at ∙ is

padding_by : (p : RtcpPacket) (padded : Bool) → nat_lt 0 (length p.padding) ≡ padded → IsPacket p → padding_behind (packet_bytes p) ≡ length p.padding
padding_by p true some h =
    cond-true _ _ _ (first_padded (nat_lt 0 (length p.padding)) p.count h.count ∙ some)
    ∙ last_read p (ltb-true 0 (length p.padding) some) h.padding_length
padding_by p false none h =
    let low : length p.padding ≤ 0 = ltb-false 0 (length p.padding) none in
    cond-false _ _ _ (first_padded (nat_lt 0 (length p.padding)) p.count h.count ∙ none)
    ∙ omega arith

front_taken : (bytes : List ℕ) (p : RtcpPacket) (rest : List ℕ) (size : ℕ) → StandsFirst bytes p rest → size ≡ packet_size p → take size bytes ≡ packet_bytes p
front_taken bytes p rest size h is =
    ap (take size) h.bytes_are ∙ take_at (packet_bytes p) rest size (length-packet p ∙ sym is)

pub padding_read : (bytes : List ℕ) (p : RtcpPacket) (rest : List ℕ) (size : ℕ) → StandsFirst bytes p rest → size ≡ packet_size p
    → padding_behind (take size bytes) ≡ length p.padding
padding_read bytes p rest size h is =
    ap padding_behind (front_taken bytes p rest size h is) ∙ padding_by p (nat_lt 0 (length p.padding)) refl h.whole
