-- Packets and the datagrams that they are.
use Rattle.std.proofs.Common.{◌≡◌, ℕ, ◌+◌, ◌-◌, ◌*◌, ◌/◌, ◌%◌, ◌<◌, ◌≤◌, inl, inr, true, List, ◌++◌, length, drop, get_or, slice_index, refl, sym, ap, subst, ◌∙◌, arith, length-append, length-drop}
use Rattle.std.proofs.lemmas.List.{drop-drop}
use Rattle.std.specs.Prelude.{nat_lt, Result, Err, IsErrOf}
use Rattle.byteorder.specs.Endian.{big_number}
use Rattle.rtp_packet.specs.declared.header.Header.{Header}
use Rattle.rtp_packet.specs.declared.fault.RtpFault.{RtpFault}
use Rattle.rtp_packet.specs.declared.fault.RtpFault.TheVariants.{Short, Version, CsrcShort, ExtensionShort, Padding, Room}
use Rattle.rtp_packet.specs.Grammar.{RtpPacket, ReadsRtp, IsExtension, IsPadding, bit_of, is_there, body_bytes, first_byte, second_byte}
use Rattle.rtp_packet.specs.Header.{IsHeaderOf}
use Rattle.rtp_packet.specs.Fault.{HasRtpFault, IsNoCount, csrc_end, extension_end}
use Rattle.rtp_packet.proofs.FixedLemmas.{length-packet_bytes, first_of_fixed, drop-fixed_bytes, fixed_bytes-read, fixed_bytes-injective}
use Rattle.rtp_packet.proofs.PartLemmas.{first_parts, second_parts, bit_of-injective, append-parts, drop-part, extension-injective, padding-injective, count_of_padding, above-from_bit, extension_end-is}

-- packets with the same parts are one
same_packet : (p q : RtpPacket) → p.marker ≡ q.marker → p.payload_type ≡ q.payload_type → p.sequence_number ≡ q.sequence_number
    → p.timestamp ≡ q.timestamp → p.ssrc ≡ q.ssrc → p.csrcs ≡ q.csrcs → p.extension ≡ q.extension → p.payload ≡ q.payload
    → p.padding ≡ q.padding → p ≡ q
same_packet p q a b c d e f g h k =
    λ i. record { marker = a i; payload_type = b i; sequence_number = c i; timestamp = d i; ssrc = e i; csrcs = f i; extension = g i; payload = h i; padding = k i }

-- A datagram is one packet at most.
pub one_packet : (datagram : List ℕ) (p q : RtpPacket) → ReadsRtp datagram p → ReadsRtp datagram q → p ≡ q
one_packet datagram p q rp rq =
    let vp = rp.valid in
    let vq = rq.valid in
    let fixed = fixed_bytes-injective (first_byte p) (second_byte p) p.sequence_number p.timestamp p.ssrc
    (first_byte q) (second_byte q) q.sequence_number q.timestamp q.ssrc (body_bytes p) (body_bytes q)
    vp.sequence_number vq.sequence_number vp.timestamp vq.timestamp vp.ssrc vq.ssrc (sym rp.bytes ∙ rq.bytes) in
    let first_p = first_parts (first_byte p) (length p.csrcs / 4) (nat_lt 0 (length p.padding)) (is_there p.extension) refl vp.csrcs_count in
    let first_q = first_parts (first_byte q) (length q.csrcs / 4) (nat_lt 0 (length q.padding)) (is_there q.extension) refl vq.csrcs_count in
    let first = fixed.0 in
    let padded = bit_of-injective (nat_lt 0 (length p.padding)) (nat_lt 0 (length q.padding)) (sym first_p.1 ∙ ap (λ (x : ℕ). x / 32 % 2) first ∙ first_q.1) in
    let extended = bit_of-injective (is_there p.extension) (is_there q.extension) (sym first_p.2 ∙ ap (λ (x : ℕ). x / 16 % 2) first ∙ first_q.2) in
    let counted : length p.csrcs / 4 ≡ length q.csrcs / 4 = sym first_p.3 ∙ ap (λ (x : ℕ). x % 16) first ∙ first_q.3 in
    let second = second_parts p.marker q.marker p.payload_type q.payload_type vp.payload_type vq.payload_type fixed.1 in
    let whole_p = vp.csrcs_whole in
    let whole_q = vq.csrcs_whole in
    let same_size : length p.csrcs ≡ length q.csrcs = omega arith in
    let csrcs = append-parts p.csrcs q.csrcs (p.extension ++ (p.payload ++ p.padding)) (q.extension ++ (q.payload ++ q.padding)) same_size fixed.5 in
    let extension = extension-injective p.extension q.extension (p.payload ++ p.padding) (q.payload ++ q.padding) vp.extension vq.extension extended csrcs.1 in
    let parts = padding-injective p.payload q.payload p.padding q.padding vp.padding vq.padding padded extension.1 in
    same_packet p q second.0 second.1 fixed.2 fixed.3 fixed.4 csrcs.0 extension.0 parts.0 parts.1

-- The parts that were cut one after the other are a packet.
pub packet_of_parts : (d : List ℕ) (h : Header) (csrcs rest : List ℕ) (e : List ℕ) (more payload padding : List ℕ)
    → IsHeaderOf d h → ((k : ℕ) → get_or d k 0 < 256)
    → drop 12 d ≡ csrcs ++ rest → length csrcs ≡ 4 * h.csrc_count
    → rest ≡ e ++ more → IsExtension e → is_there e ≡ h.extension
    → more ≡ payload ++ padding → IsPadding padding → nat_lt 0 (length padding) ≡ h.padding
    → ReadsRtp d (record {
      marker = h.marker;
      payload_type = h.payload_type;
      sequence_number = h.sequence_number;
      timestamp = h.timestamp;
      ssrc = h.ssrc.0;
      csrcs = csrcs;
      extension = e;
      payload = payload;
      padding = padding;
    })
packet_of_parts d h csrcs rest e more payload padding header bytes cut size cut_e valid_e there cut_p valid_p padded =
    let count = header.csrc_count in
    let quarter : length csrcs / 4 ≡ h.csrc_count = omega arith in
    let first : slice_index d 0 ≡ 2 * 64 + 32 * bit_of (nat_lt 0 (length padding)) + 16 * bit_of (is_there e) + length csrcs / 4 =
    rw (padded, there, quarter) header.first in
    let read = fixed_bytes-read d header.whole bytes in
    let body : drop 12 d ≡ csrcs ++ (e ++ (payload ++ padding)) =
    cut ∙ ap (λ (r : List ℕ). csrcs ++ r) (cut_e ∙ ap (λ (r : List ℕ). e ++ r) cut_p) in
    let second = header.second in
    let sequence_number = header.sequence_number in
    let timestamp = header.timestamp in
    let ssrc = header.ssrc in
    record {
      valid = record {
        payload_type = header.payload_type;
        sequence_number = header.sequence_number_fits;
        timestamp = header.timestamp_fits;
        ssrc = header.ssrc_fits;
        csrcs_whole = omega arith;
        csrcs_count = omega arith;
        extension = valid_e;
        padding = valid_p;
      };
      bytes = cc;
    }

-- The place after the CSRCs is that after the header and them.
pub csrc_end-is : (d : List ℕ) (h : Header) (csrcs : List ℕ) → IsHeaderOf d h → length csrcs ≡ 4 * h.csrc_count → csrc_end d ≡ 12 + length csrcs
csrc_end-is d h csrcs header size =
    let parts = first_parts (slice_index d 0) h.csrc_count h.padding h.extension header.first header.csrc_count in
    omega (arith, parts.3)

pub extension_fault : (d : List ℕ) (h : Header) (csrcs rest : List ℕ) → IsHeaderOf d h
    → drop 12 d ≡ csrcs ++ rest → length csrcs ≡ 4 * h.csrc_count → h.extension ≡ true
    → length rest < 4 + 4 * big_number 2 (drop 2 rest) → HasRtpFault d ExtensionShort
extension_fault d h csrcs rest header cut size there short =
    let parts = first_parts (slice_index d 0) h.csrc_count h.padding h.extension header.first header.csrc_count in
    let whole = header.whole in
    let place = csrc_end-is d h csrcs header size in
    let moved = drop-part d csrcs rest 12 (csrc_end d) cut place in
    let on : slice_index d 0 / 16 % 2 ≡ 1 = parts.2 ∙ ap bit_of there in
    let behind : drop (csrc_end d + 2) d ≡ drop 2 rest = sym (drop-drop 2 (csrc_end d) d) ∙ ap (drop 2) moved in
    let count = ap (big_number 2) behind in
    let left : length d - 12 ≡ length csrcs + length rest = sym (length-drop 12 d) ∙ ap length cut ∙ length-append csrcs rest in
    ((whole, parts.0), omega arith, rw on (omega arith))

pub padding_fault : (d : List ℕ) (h : Header) (csrcs rest : List ℕ) (e : List ℕ) (more : List ℕ)
    → IsHeaderOf d h → drop 12 d ≡ csrcs ++ rest → length csrcs ≡ 4 * h.csrc_count
    → rest ≡ e ++ more → IsExtension e → is_there e ≡ h.extension
    → h.padding ≡ true → IsNoCount more → HasRtpFault d Padding
padding_fault d h csrcs rest e more header cut size cut_e valid_e there padded none =
    let parts = first_parts (slice_index d 0) h.csrc_count h.padding h.extension header.first header.csrc_count in
    let whole = header.whole in
    let place = csrc_end-is d h csrcs header size in
    let moved = drop-part d csrcs rest 12 (csrc_end d) cut place in
    let end = extension_end-is d rest more e (parts.2 ∙ ap bit_of (sym there)) valid_e moved cut_e in
    let tail = drop-part d e more (csrc_end d) (extension_end d) (moved ∙ cut_e) end in
    let left : length d - 12 ≡ length csrcs + length rest = sym (length-drop 12 d) ∙ ap length cut ∙ length-append csrcs rest in
    let left_e : length rest ≡ length e + length more = ap length cut_e ∙ length-append e more in
    let P : List ℕ → Type 0 = λ l. IsNoCount l in
    ((whole, parts.0), omega arith, omega arith, parts.1 ∙ ap bit_of padded, subst P (sym tail) none)

-- where the parts of a packet stand in its datagram
pub record IsLaidOut (d : List ℕ) (p : RtpPacket) : Type 0 where
  pub whole : 12 ≤ length d
  pub version : slice_index d 0 / 64 ≡ 2
  pub padded : slice_index d 0 / 32 % 2 ≡ bit_of (nat_lt 0 (length p.padding))
  pub csrcs : csrc_end d ≤ length d
  pub end : extension_end d + length (p.payload ++ p.padding) ≡ length d
  pub tail : drop (extension_end d) d ≡ p.payload ++ p.padding

pub laid_out : (d : List ℕ) (p : RtpPacket) → ReadsRtp d p → IsLaidOut d p
laid_out d p reads =
    let valid = reads.valid in
    let csrcs_whole = valid.csrcs_whole in
    let first : slice_index d 0 ≡ first_byte p = ap (λ (l : List ℕ). slice_index l 0) reads.bytes
    ∙ first_of_fixed (first_byte p) (second_byte p) p.sequence_number p.timestamp p.ssrc (body_bytes p) in
    let parts = first_parts (slice_index d 0) (length p.csrcs / 4) (nat_lt 0 (length p.padding)) (is_there p.extension) first valid.csrcs_count in
    let cut : drop 12 d ≡ body_bytes p = ap (drop 12) reads.bytes
    ∙ drop-fixed_bytes (first_byte p) (second_byte p) p.sequence_number p.timestamp p.ssrc (body_bytes p) in
    let size : length d ≡ 12 + length (body_bytes p) = ap length reads.bytes
    ∙ length-packet_bytes (first_byte p) (second_byte p) p.sequence_number p.timestamp p.ssrc (body_bytes p) in
    let last = p.payload ++ p.padding in
    let rest = p.extension ++ last in
    let body = length-append p.csrcs rest in
    let behind = length-append p.extension last in
    let count = parts.3 in
    let place : csrc_end d ≡ 12 + length p.csrcs = omega arith in
    let moved = drop-part d p.csrcs rest 12 (csrc_end d) cut place in
    let end = extension_end-is d rest last p.extension parts.2 valid.extension moved refl in
    record {
      whole = omega arith;
      version = parts.0;
      padded = parts.1;
      csrcs = omega arith;
      end = omega arith;
      tail = drop-part d p.extension last (csrc_end d) (extension_end d) moved end;
    }

-- what a packet ends in counts its padding
not_no_count : (payload padding : List ℕ) → IsPadding padding → 0 < length padding → IsNoCount (payload ++ padding) → ⊥
not_no_count payload padding valid some h =
    let count = count_of_padding payload padding valid some in
    let size = length-append payload padding in
    elim h [ inl none ↦ omega arith | inr other ↦ elim other [ inl zero_count ↦ omega arith | inr above ↦ omega arith ] ]

-- A packet has no fault.
pub no_fault : (d : List ℕ) (p : RtpPacket) (fault : RtpFault) → ReadsRtp d p → HasRtpFault d fault → ⊥
no_fault d p Short reads h = let l = laid_out d p reads in omega arith
no_fault d p Version reads h = let l = laid_out d p reads in h.1 l.version
no_fault d p CsrcShort reads h = let l = laid_out d p reads in omega arith
no_fault d p ExtensionShort reads h = let l = laid_out d p reads in omega arith
no_fault d p Padding reads h =
    let l = laid_out d p reads in
    let some = above-from_bit (length p.padding) (sym l.padded ∙ h.3) in
    let P : List ℕ → Type 0 = λ x. IsNoCount x in
    not_no_count p.payload p.padding reads.valid.padding some (subst P l.tail h.4)
no_fault d p Room reads h = h

pub csrc_fault : (d : List ℕ) (h : Header) → IsHeaderOf d h → length (drop 12 d) < 4 * h.csrc_count → HasRtpFault d CsrcShort
csrc_fault d h header short =
    let parts = first_parts (slice_index d 0) h.csrc_count h.padding h.extension header.first header.csrc_count in
    let whole = header.whole in
    let count = parts.3 in
    let left = length-drop 12 d in
    ((whole, parts.0), omega arith)

pub whole_header : (d : List ℕ) (p : RtpPacket) → ReadsRtp d p → 12 ≤ length d
whole_header d p reads = let l = laid_out d p reads in l.whole

-- A datagram has one fault at most.
one_fault : (d : List ℕ) (f g : RtpFault) → HasRtpFault d f → HasRtpFault d g → f ≡ g
one_fault d Short Short h k = refl
one_fault d Version Version h k = refl
one_fault d CsrcShort CsrcShort h k = refl
one_fault d ExtensionShort ExtensionShort h k = refl
one_fault d Padding Padding h k = refl
one_fault d Room g h k = absurd h
one_fault d f Room h k = absurd k
one_fault d f g h k = absurd (omega arith)

-- what was refused by a fault that the datagram has was refused by each that it has
pub exact_fault : {T : Type 0} (d : List ℕ) (r : Result T RtpFault) (f : RtpFault) → r ≡ Err f → HasRtpFault d f
    → (g : RtpFault) → HasRtpFault d g → IsErrOf r g
exact_fault d r f is has g k = is ∙ ap Err (one_fault d f g has k)
