-- Packets that are renamed one after the other.
use Rattle.std.proofs.Common.{◌≡◌, ◌∙◌, ℕ, ◌+◌, ◌-◌, ◌<◌, ◌≤◌, List, [], ◌∷◌, ◌++◌, length, map, take, drop, refl, sym, ap, subst, arith, length-append, length-drop, append_assoc, append-nil}
use Rattle.std.specs.List.{flat_map}
use Rattle.std.proofs.lemmas.List.{length-take-le, take-append-drop, take_at, drop_at, drop_all, take_rest}
use borrow.Rule.Slice.PartMut.{put_mid}
use Rattle.rtcp_compound.specs.Grammar.{AreJoined, IsPacket, ReadsRtcp, RtcpPacket, packet_bytes}
use Rattle.rtcp_compound.specs.Reading.{packets_in}
use Rattle.rtcp_compound.specs.declared.fault.RtcpFault.TheVariants.{Short}
use Rattle.rtcp_compound.proofs.DatagramLemmas.{packets_more, packets_none, reads_only}
use Rattle.rtcp_compound.proofs.PacketLemmas.{packet_again, packet_short}
use Rattle.seats.specs.Exchange.{IsJoined, renamed_packets}
use Rattle.seats.specs.Frame.{StandsFirst, packet_size}

-- ---- what packets are renamed to

renamed_more : (f : RtcpPacket → RtcpPacket) (bytes : List ℕ) (p : RtcpPacket) (rest : List ℕ) → StandsFirst bytes p rest
    → renamed_packets f bytes ≡ packet_bytes (f p) ++ renamed_packets f rest
unfolding renamed_packets
renamed_more f bytes p rest h =
    ap (λ (b : List ℕ). flat_map packet_bytes (map f (packets_in b))) h.bytes_are
    ∙ ap (λ (ps : List RtcpPacket). flat_map packet_bytes (map f ps))
    (packets_more (packet_bytes p ++ rest) p rest (packet_again p rest h.whole h.last))

renamed_none : (f : RtcpPacket → RtcpPacket) → renamed_packets f [] ≡ []
unfolding renamed_packets
renamed_none f = ap (λ (ps : List RtcpPacket). flat_map packet_bytes (map f ps)) (packets_none [] Short (packet_short [] (omega arith)))

pub renamed_all : (f : RtcpPacket → RtcpPacket) (bytes : List ℕ) (ps : List RtcpPacket) → ReadsRtcp bytes ps
    → renamed_packets f bytes ≡ flat_map packet_bytes (map f ps)
unfolding renamed_packets
renamed_all f bytes ps h = ap (λ (qs : List RtcpPacket). flat_map packet_bytes (map f qs)) (reads_only bytes ps h)

pub joined_by : (bytes : List ℕ) (ps : List RtcpPacket) → ReadsRtcp bytes ps → IsJoined bytes
joined_by bytes ps h = record { packets = ps; joined = h.joined; bytes_are = h.bytes_are }

-- ---- the packet at the front of those that are left

pub record HasFirst (bytes : List ℕ) : Type 0 where
  pub packet : RtcpPacket
  pub rest : List ℕ
  pub first : StandsFirst bytes packet rest
  pub others : IsJoined rest

first_of : (ps : List RtcpPacket) (bytes : List ℕ) → AreJoined ps → bytes ≡ flat_map packet_bytes ps → 0 < length bytes → HasFirst bytes
first_of [] bytes h e some = absurd (omega (arith, ap length e))
first_of (p ∷ []) bytes h e some = record {
  packet = p;
  rest = [];
  first = record { whole = h; last = λ _. refl; bytes_are = e };
  others = record { packets = []; joined = tt; bytes_are = refl };
}
first_of (p ∷ (q ∷ qs)) bytes h e some = record {
  packet = p;
  rest = flat_map packet_bytes (q ∷ qs);
  first = record { whole = h.0; last = λ more. absurd (omega (arith, ap length h.1)); bytes_are = e };
  others = record { packets = q ∷ qs; joined = h.2; bytes_are = refl };
}

pub has_first : (bytes : List ℕ) → IsJoined bytes → 0 < length bytes → HasFirst bytes
has_first bytes h some = first_of h.packets bytes h.joined h.bytes_are some

-- the same of what is behind a place, as a call is lent it
pub has_next : (xs : List ℕ) (at : ℕ) → IsJoined (drop at xs) → at < length xs → HasFirst (take (length xs - at) (drop at xs))
has_next xs at left below =
    let P : List ℕ → Type 0 = λ l. HasFirst l in
    let long = length-drop at xs in
    subst P (sym (take_rest xs at)) (has_first (drop at xs) left (omega arith))

-- ---- one packet more

-- up to this place all are renamed, and the others are as they were
pub record IsUnderWay (f : RtcpPacket → RtcpPacket) (all xs : List ℕ) (at : ℕ) : Type 0 where
  pub within : at ≤ length xs
  pub left : IsJoined (drop at xs)
  pub goes : take at xs ++ renamed_packets f (drop at xs) ≡ renamed_packets f all

pub begins : (f : RtcpPacket → RtcpPacket) (all : List ℕ) → IsJoined all → IsUnderWay f all all 0
begins f all h = record { within = omega arith; left = h; goes = refl }

-- what a call answers that renames the packet at the front
abbrev pub Renames : (RtcpPacket → RtcpPacket) → List ℕ → List ℕ → ℕ → Type 0
Renames f old new size =
    (p : RtcpPacket) (rest : List ℕ) → StandsFirst old p rest → (size ≡ packet_size p) × (new ≡ packet_bytes (f p) ++ rest)

-- what it leaves
record Leaves (f : RtcpPacket → RtcpPacket) (xs w : List ℕ) (at size : ℕ) (h : HasFirst (take (length xs - at) (drop at xs))) : Type 0 where
  size_is : size ≡ packet_size h.packet
  front : drop at xs ≡ packet_bytes h.packet ++ h.rest
  written : put_mid at (length xs - at) xs w ≡ (take at xs ++ packet_bytes (f h.packet)) ++ h.rest

written_behind : (at : ℕ) (xs w : List ℕ) → put_mid at (length xs - at) xs w ≡ take at xs ++ w
written_behind at xs w =
    let long = length-drop at xs in
    ap (λ (l : List ℕ). take at xs ++ (w ++ l)) (drop_all (length xs - at) (drop at xs) (omega arith))
    ∙ ap (λ (l : List ℕ). take at xs ++ l) (append-nil w)

leaves : (f : RtcpPacket → RtcpPacket) (xs w : List ℕ) (at size : ℕ) (h : HasFirst (take (length xs - at) (drop at xs)))
    → Renames f (take (length xs - at) (drop at xs)) w size → Leaves f xs w at size h
leaves f xs w at size h does =
    let done = does h.packet h.rest h.first in
    record {
      size_is = done.0;
      front = sym (take_rest xs at) ∙ h.first.bytes_are;
      written = written_behind at xs w ∙ ap (λ (l : List ℕ). take at xs ++ l) done.1
          ∙ sym (append_assoc (take at xs) (packet_bytes (f h.packet)) h.rest);
    }

pub goes_on : (f : RtcpPacket → RtcpPacket) (all xs w : List ℕ) (at size : ℕ) → ((p : RtcpPacket) → IsPacket p → length (packet_bytes (f p)) ≡ packet_size p)
    → IsUnderWay f all xs at → at < length xs → Renames f (take (length xs - at) (drop at xs)) w size
    → IsUnderWay f all (put_mid at (length xs - at) xs w) (at + size)
goes_on f all xs w at size same h below does =
    let next = has_next xs at h.left below in
    let l = leaves f xs w at size next does in
    let ys = put_mid at (length xs - at) xs w in
    let within : at ≤ length xs = h.within in
    let before : length (take at xs) ≡ at = length-take-le at xs within in
    let made : length (packet_bytes (f next.packet)) ≡ size = same next.packet next.first.whole ∙ sym l.size_is in
    let long : length (take at xs ++ packet_bytes (f next.packet)) ≡ at + size =
    length-append (take at xs) (packet_bytes (f next.packet)) ∙ omega arith in
    let front : take (at + size) ys ≡ take at xs ++ packet_bytes (f next.packet) =
    ap (take (at + size)) l.written ∙ take_at (take at xs ++ packet_bytes (f next.packet)) next.rest (at + size) long in
    let behind : drop (at + size) ys ≡ next.rest =
    ap (drop (at + size)) l.written ∙ drop_at (take at xs ++ packet_bytes (f next.packet)) next.rest (at + size) long in
    let all_long = ap length l.written ∙ length-append (take at xs ++ packet_bytes (f next.packet)) next.rest in
    let P : List ℕ → Type 0 = λ r. IsJoined r in
    let here : StandsFirst (drop at xs) next.packet next.rest = record { whole = next.first.whole; last = next.first.last; bytes_are = l.front } in
    record {
      within = omega (arith, all_long, long);
      left = subst P (sym behind) next.others;
      goes =
          ap (λ (r : List ℕ). r ++ renamed_packets f (drop (at + size) ys)) front
          ∙ ap (λ (r : List ℕ). (take at xs ++ packet_bytes (f next.packet)) ++ renamed_packets f r) behind
          ∙ append_assoc (take at xs) (packet_bytes (f next.packet)) (renamed_packets f next.rest)
          ∙ ap (λ (r : List ℕ). take at xs ++ r) (sym (renamed_more f (drop at xs) next.packet next.rest here))
          ∙ h.goes;
    }

-- the packet is there, and as long as is said
pub is_within : (f : RtcpPacket → RtcpPacket) (xs w : List ℕ) (at size : ℕ) → IsJoined (drop at xs) → at < length xs
    → Renames f (take (length xs - at) (drop at xs)) w size → (4 ≤ size) × (at + size ≤ length xs)
is_within f xs w at size left below does =
    let next = has_next xs at left below in
    let l = leaves f xs w at size next does in
    let size_is : size ≡ 4 + (length next.packet.body + length next.packet.padding) = l.size_is in
    let behind = length-drop at xs in
    let front = ap length l.front ∙ length-append (packet_bytes next.packet) next.rest in
    let body = length-append next.packet.body next.packet.padding in
    (omega arith, omega (arith, front, behind, body))

-- all are renamed
pub ends : (f : RtcpPacket → RtcpPacket) (all xs : List ℕ) (at : ℕ) → length xs ≤ at → IsUnderWay f all xs at → xs ≡ renamed_packets f all
ends f all xs at past h =
    let within : at ≤ length xs = h.within in
    let none : drop at xs ≡ [] = drop_all at xs past in
    let whole : take at xs ≡ xs = sym (append-nil (take at xs)) ∙ ap (λ (l : List ℕ). take at xs ++ l) (sym none) ∙ take-append-drop at xs in
    sym whole ∙ sym (append-nil (take at xs)) ∙ ap (λ (l : List ℕ). take at xs ++ l) (sym (ap (renamed_packets f) none ∙ renamed_none f)) ∙ h.goes
