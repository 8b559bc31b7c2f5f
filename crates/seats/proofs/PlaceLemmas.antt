-- The places of names stand within a packet's body.
use Rattle.std.proofs.Common.{◌≡◌, ◌∙◌, ℕ, ◌+◌, ◌-◌, ◌*◌, ◌/◌, ◌<◌, ◌≤◌, ◌%◌, ◌&&◌, ◌||◌, List, ◌∷◌, ◌++◌, length, take, drop, refl, sym, ap, ap₂, arith, append_assoc}
use Rattle.std.specs.Prelude.{◌==◌, min, nat_lt, if◌then◌else◌}
use Rattle.std.proofs.lemmas.Bool.{cond_both, eqb-true}
use Rattle.std.proofs.lemmas.List.{take_at, drop_at}
use borrow.Rule.Slice.PartMut.{put_mid}
use Rattle.rtcp_compound.specs.Grammar.{IsPacket, RtcpPacket, packet_bytes}
use Rattle.rtcp_compound.specs.declared.packet.TheConstants.{SR, RR, BYE, RTPFB, PSFB}
use Rattle.seats.specs.Exchange.{Fits, packet_as, places_in}
use Rattle.seats.specs.Frame.{StandsFirst, packet_size}
use Rattle.seats.specs.Places.{body_as, heard_places, told_places}
use Rattle.seats.specs.declared.names.Names.{Names}
use Rattle.seats.specs.declared.places.Places.{Places}
use Rattle.seats.specs.declared.renaming.Way.{Way}
use Rattle.seats.specs.declared.renaming.Way.TheVariants.{Heard, Told}
use Rattle.seats.proofs.EntryLemmas.{length-body}
use Rattle.seats.proofs.FrameLemmas.{length-packet}

-- ---- entries have room for a name

abbrev IsWide : Places → Type 0
IsWide p = 4 ≤ p.size

told_wide : (n : Names) (kind count size : ℕ) → IsWide (told_places n kind count size)
told_wide n kind count size =
    cond_both (kind == SR) _ _ IsWide (λ _. omega arith) (λ _.
    cond_both (kind == RR) _ _ IsWide (λ _. omega arith) (λ _.
    cond_both ((kind == PSFB) && (count == 1)) _ _ IsWide (λ _. omega arith) (λ _.
    cond_both ((kind == RTPFB) && (count == 3)) _ _ IsWide (λ _. omega arith) (λ _.
    cond_both ((kind == RTPFB) && (count == 4)) _ _ IsWide (λ _. omega arith) (λ _. omega arith)))))

heard_wide : (n : Names) (kind count size : ℕ) → IsWide (heard_places n kind count size)
heard_wide n kind count size =
    cond_both (kind == SR) _ _ IsWide (λ _. omega arith) (λ _.
    cond_both (kind == RR) _ _ IsWide (λ _. omega arith) (λ _.
    cond_both (kind == BYE) _ _ IsWide (λ _. omega arith) (λ _.
    cond_both ((kind == RTPFB) || (kind == PSFB)) _ _ IsWide (λ _. omega arith) (λ _. omega arith))))

pub wide : (way : Way) (n : Names) (kind count size : ℕ) → 4 ≤ (places_in way n kind count size).size
wide Heard n kind count size = heard_wide n kind count size
wide Told n kind count size = told_wide n kind count size

-- ---- they stand within the body

one_behind : (front size : ℕ) → 0 < min ((size - front) / 4) 1 → front + 4 * min ((size - front) / 4) 1 ≤ size
one_behind front size some = omega arith

first_within : (size : ℕ) → 0 < min (size / 4) 1 → 0 + 4 * min (size / 4) 1 ≤ size
first_within size some = omega arith

eights_behind : (size : ℕ) → 0 < (size - 8) / 8 → 8 + 8 * ((size - 8) / 8) ≤ size
eights_behind size some = omega arith

told_fits : (n : Names) (p : RtcpPacket) → IsPacket p → Fits (told_places n p.kind p.count (length p.body)) (length p.body)
told_fits n p h =
    let P : Places → Type 0 = λ x. Fits x (length p.body) in
    cond_both (p.kind == SR) _ _ P (λ is _. let room = h.body.reports.sender_report (eqb-true _ _ is) in omega (arith, room)) (λ _.
    cond_both (p.kind == RR) _ _ P (λ is _. let room = h.body.reports.receiver_report (eqb-true _ _ is) in omega (arith, room)) (λ _.
    cond_both ((p.kind == PSFB) && (p.count == 1)) _ _ P (λ _ some. one_behind 4 (length p.body) some) (λ _.
    cond_both ((p.kind == RTPFB) && (p.count == 3)) _ _ P (λ _ some. eights_behind (length p.body) some) (λ _.
    cond_both ((p.kind == RTPFB) && (p.count == 4)) _ _ P (λ _ some. eights_behind (length p.body) some) (λ _ some. absurd (omega arith))))))

heard_fits : (n : Names) (p : RtcpPacket) → IsPacket p → Fits (heard_places n p.kind p.count (length p.body)) (length p.body)
heard_fits n p h =
    let P : Places → Type 0 = λ x. Fits x (length p.body) in
    cond_both (p.kind == SR) _ _ P (λ is _. let room = h.body.reports.sender_report (eqb-true _ _ is) in omega (arith, room)) (λ _.
    cond_both (p.kind == RR) _ _ P (λ is _. let room = h.body.reports.receiver_report (eqb-true _ _ is) in omega (arith, room)) (λ _.
    cond_both (p.kind == BYE) _ _ P (λ is _. let room = (h.body.goodbye (eqb-true _ _ is)).0 in omega (arith, room)) (λ _.
    cond_both ((p.kind == RTPFB) || (p.kind == PSFB)) _ _ P (λ _ some. first_within (length p.body) some) (λ _ some. absurd (omega arith)))))

pub fits : (way : Way) (n : Names) (p : RtcpPacket) → IsPacket p → Fits (places_in way n p.kind p.count (length p.body)) (length p.body)
fits Heard n p h = heard_fits n p h
fits Told n p h = told_fits n p h

-- ---- the packet under other names

abbrev pub new_body : Way → Names → RtcpPacket → List ℕ
new_body way n p = body_as (places_in way n p.kind p.count (length p.body)) p.body

as_body : (way : Way) (n : Names) (p : RtcpPacket) → packet_as way n p ≡ record p { body = new_body way n p }
as_body Heard n p = refl
as_body Told n p = refl

pub length-new : (way : Way) (n : Names) (p : RtcpPacket) → IsPacket p → length (new_body way n p) ≡ length p.body
length-new way n p h = length-body (places_in way n p.kind p.count (length p.body)) p.body (wide way n p.kind p.count (length p.body)) (fits way n p h)

-- a packet with another body of the same length
with_body : (p : RtcpPacket) (body : List ℕ) → length body ≡ length p.body
    → packet_bytes (record p { body = body }) ≡ (128 + (if nat_lt 0 (length p.padding) then 32 else 0) + p.count) ∷ (p.kind
    ∷ (((length p.body + length p.padding) / 4 / 256) ∷ (((length p.body + length p.padding) / 4 % 256) ∷ (body ++ p.padding))))
with_body p body same =
    ap (λ (m : ℕ). (128 + (if nat_lt 0 (length p.padding) then 32 else 0) + p.count) ∷ (p.kind
    ∷ (((m + length p.padding) / 4 / 256) ∷ (((m + length p.padding) / 4 % 256) ∷ (body ++ p.padding))))) same

pub length-as : (way : Way) (n : Names) (p : RtcpPacket) → IsPacket p → length (packet_bytes (packet_as way n p)) ≡ packet_size p
length-as way n p h =
    let size = length-packet (record p { body = new_body way n p }) in
    let same = length-new way n p h in
    ap (λ (q : RtcpPacket). length (packet_bytes q)) (as_body way n p) ∙ size ∙ omega arith

-- its body is written over, and nothing else
pub body_written : (way : Way) (n : Names) (p : RtcpPacket) (xs rest w : List ℕ) (k : ℕ) → StandsFirst xs p rest → k ≡ length p.body
    → w ≡ body_as (places_in way n p.kind p.count (length p.body)) (take k (drop 4 xs))
    → put_mid 4 k xs w ≡ packet_bytes (packet_as way n p) ++ rest
body_written way n p xs rest w k h is e =
    let all = packet_bytes p ++ rest in
    let behind : drop 4 all ≡ p.body ++ (p.padding ++ rest) = append_assoc p.body p.padding rest in
    let body : take k (drop 4 xs) ≡ p.body =
    ap (λ (l : List ℕ). take k (drop 4 l)) h.bytes_are ∙ ap (take k) behind ∙ take_at p.body (p.padding ++ rest) k (sym is) in
    let others : drop k (drop 4 all) ≡ p.padding ++ rest = ap (drop k) behind ∙ drop_at p.body (p.padding ++ rest) k (sym is) in
    let new : w ≡ new_body way n p = e ∙ ap (body_as (places_in way n p.kind p.count (length p.body))) body in
    let joined : new_body way n p ++ (p.padding ++ rest) ≡ (new_body way n p ++ p.padding) ++ rest = sym (append_assoc (new_body way n p) p.padding rest) in
    ap (λ (l : List ℕ). put_mid 4 k l w) h.bytes_are
    ∙ ap₂ (λ (v l : List ℕ). take 4 all ++ (v ++ l)) new others
    ∙ ap (λ (l : List ℕ). take 4 all ++ l) joined
    ∙ ap (λ (l : List ℕ). l ++ rest) (sym (with_body p (new_body way n p) (length-new way n p h.whole)))
    ∙ ap (λ (q : RtcpPacket). packet_bytes q ++ rest) (sym (as_body way n p))
