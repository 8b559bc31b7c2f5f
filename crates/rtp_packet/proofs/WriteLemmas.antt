-- What stands in a buffer once a packet is copied to its front.
use Rattle.std.proofs.Common.{◌≡◌, ℕ, ◌+◌, ◌-◌, ◌≤◌, List, ◌++◌, length, take, drop, sym, ap, ◌∙◌, arith, length-append, length-drop}
use Rattle.std.proofs.lemmas.List.{append_assoc, take_rest}
use borrow.Rule.Slice.PartMut.{put_mid}
use Rattle.byteorder.specs.Endian.{big_bytes}
use Rattle.rtp_packet.specs.Grammar.{RtpPacket, ReadsRtp, bytes_of, body_bytes, first_byte, second_byte, fixed_bytes, with_address}
use Rattle.rtp_packet.proofs.FixedLemmas.{length-packet_bytes, sequence_number_written, ssrc_written}
use Rattle.rtp_packet.proofs.PacketLemmas.{whole_header}

-- a part up to the end has what stands after its start
pub length-part : (n k : ℕ) (xs : List ℕ) → n + k ≤ length xs → k ≤ length (take (length xs - n) (drop n xs))
length-part n k xs h = rw (take_rest xs n, length-drop n xs) (omega arith)

-- the packet's bytes and what stands after them
copied : (d copy tail : List ℕ) (p : RtpPacket) → ReadsRtp d p → copy ≡ d
    → copy ++ tail ≡ fixed_bytes (first_byte p) (second_byte p) p.sequence_number p.timestamp p.ssrc ++ (body_bytes p ++ tail)
copied d copy tail p reads same =
    ap (λ (l : List ℕ). l ++ tail) (same ∙ reads.bytes)
    ∙ append_assoc (fixed_bytes (first_byte p) (second_byte p) p.sequence_number p.timestamp p.ssrc) (body_bytes p) tail

pub length-copied : (d copy tail : List ℕ) (p : RtpPacket) → ReadsRtp d p → copy ≡ d → 12 ≤ length (copy ++ tail)
length-copied d copy tail p reads same =
    let whole = whole_header d p reads in
    let size = ap length same in
    omega (arith, length-append copy tail)

-- with the sequence number written
pub numbered : (d copy tail w : List ℕ) (p : RtpPacket) (s : ℕ) → ReadsRtp d p → copy ≡ d
    → w ≡ big_bytes 2 s ++ drop 2 (take (length (copy ++ tail) - 2) (drop 2 (copy ++ tail)))
    → put_mid 2 (length (copy ++ tail) - 2) (copy ++ tail) w
    ≡ fixed_bytes (first_byte p) (second_byte p) s p.timestamp p.ssrc ++ (body_bytes p ++ tail)
numbered d copy tail w p s reads same e =
    sequence_number_written (first_byte p) (second_byte p) p.sequence_number p.timestamp p.ssrc s (body_bytes p ++ tail) (copy ++ tail) w
    (copied d copy tail p reads same) e

pub length-numbered : (d copy tail w : List ℕ) (p : RtpPacket) (s : ℕ) → ReadsRtp d p → copy ≡ d
    → w ≡ big_bytes 2 s ++ drop 2 (take (length (copy ++ tail) - 2) (drop 2 (copy ++ tail)))
    → 12 ≤ length (put_mid 2 (length (copy ++ tail) - 2) (copy ++ tail) w)
length-numbered d copy tail w p s reads same e =
    let size = ap length (numbered d copy tail w p s reads same e) in
    let whole = length-packet_bytes (first_byte p) (second_byte p) s p.timestamp p.ssrc (body_bytes p ++ tail) in
    omega (arith, size, whole)

-- with the SSRC written too
pub addressed : (d copy tail w v : List ℕ) (p : RtpPacket) (s u : ℕ) → ReadsRtp d p → copy ≡ d
    → w ≡ big_bytes 2 s ++ drop 2 (take (length (copy ++ tail) - 2) (drop 2 (copy ++ tail)))
    → (xs : List ℕ) → xs ≡ put_mid 2 (length (copy ++ tail) - 2) (copy ++ tail) w
    → v ≡ big_bytes 4 u ++ drop 4 (take (length xs - 8) (drop 8 xs))
    → put_mid 8 (length xs - 8) xs v ≡ bytes_of (with_address u s p) ++ tail
addressed d copy tail w v p s u reads same e xs is f =
    ssrc_written (first_byte p) (second_byte p) s p.timestamp p.ssrc u (body_bytes p ++ tail) xs v
    (is ∙ numbered d copy tail w p s reads same e) f
    ∙ sym (append_assoc (fixed_bytes (first_byte p) (second_byte p) s p.timestamp u) (body_bytes p) tail)
