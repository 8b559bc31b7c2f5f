-- Packets joined, read one after the other.
use Rattle.std.proofs.Common.{◌≡◌, ◌∙◌, ℕ, zero, suc, ◌+◌, ◌<◌, ◌≤◌, ◌⊎◌, inl, inr, List, [], ◌∷◌, ◌++◌, length, map, get_or, Result, Ok, Err, refl, sym, ap, subst, arith}
use Rattle.std.specs.List.{flat_map}
use Rattle.std.proofs.lemmas.Bool.{cases_lt}
use Rattle.std.proofs.lemmas.List.{append-nil, append_assoc, flat_map_more, nil_from_length, length_push, get_or-append-add}
use Rattle.rtcp_compound.specs.declared.fault.RtcpFault.{RtcpFault}
use Rattle.rtcp_compound.specs.Grammar.{RtcpPacket, packet_bytes, IsPacket, AreJoined, ReadsRtcp}
use Rattle.rtcp_compound.specs.Content.{packet_content}
use Rattle.rtcp_compound.specs.Fault.{AreUnpadded, Passes, Refuses}
use Rattle.rtcp_compound.specs.Reading.{packet_at, found_then, packets_within, packets_in}
use Rattle.rtcp_compound.proofs.PacketLemmas.{Takes, IsBytes, packet_again, packet_short, packet_shorter}
use Rattle.rtcp_compound.proofs.FaultLemmas.{fault_again}

-- what a packet's reading gave
pub read_cases : (r : Result (RtcpPacket × List ℕ) RtcpFault) → ((x : RtcpPacket × List ℕ) × (r ≡ Ok x)) ⊎ ((f : RtcpFault) × (r ≡ Err f))
read_cases (Ok x) = inl (x, refl)
read_cases (Err f) = inr (f, refl)

enough : (n m : ℕ) (bytes : List ℕ) → length bytes ≤ n → length bytes ≤ m → packets_within n bytes ≡ packets_within m bytes
enough zero zero bytes h k = refl
enough zero (suc m) bytes h k = sym (ap (found_then (packets_within m)) (packet_short bytes (omega arith)))
enough (suc n) zero bytes h k = ap (found_then (packets_within n)) (packet_short bytes (omega arith))
enough (suc n) (suc m) bytes h k = elim (read_cases (packet_at bytes)) [
  | inl x ↦
      let shorter = packet_shorter bytes x.0 x.1 in
      ap (found_then (packets_within n)) x.1 ∙ ap (λ ps. x.0.0 ∷ ps) (enough n m x.0.1 (omega arith) (omega arith)) ∙ sym (ap (found_then (packets_within m)) x.1)
  | inr f ↦ ap (found_then (packets_within n)) f.1 ∙ sym (ap (found_then (packets_within m)) f.1)
]

pub packets_more : (bytes : List ℕ) (p : RtcpPacket) (rest : List ℕ) → packet_at bytes ≡ Ok (p, rest) → packets_in bytes ≡ p ∷ packets_in rest
unfolding packets_in
packets_more bytes p rest e =
    let shorter = packet_shorter bytes (p, rest) e in
    let here : length rest + 4 ≤ length bytes = shorter in
    enough (length bytes) (suc (length bytes)) bytes (omega arith) (omega arith)
    ∙ ap (found_then (packets_within (length bytes))) e
    ∙ ap (λ ps. p ∷ ps) (enough (length bytes) (length rest) rest (omega arith) (omega arith))

pub packets_none : (bytes : List ℕ) (f : RtcpFault) → packet_at bytes ≡ Err f → packets_in bytes ≡ []
unfolding packets_in
packets_none bytes f e =
    enough (length bytes) (suc (length bytes)) bytes (omega arith) (omega arith) ∙ ap (found_then (packets_within (length bytes))) e

pub contents_more : (bytes : List ℕ) (p : RtcpPacket) (rest : List ℕ) → packet_at bytes ≡ Ok (p, rest) → map packet_content (packets_in bytes) ≡ packet_content p ∷ map packet_content (packets_in rest)
contents_more bytes p rest e = ap (map packet_content) (packets_more bytes p rest e)

pub contents_none : (bytes : List ℕ) (f : RtcpFault) → packet_at bytes ≡ Err f → map packet_content (packets_in bytes) ≡ []
contents_none bytes f e = ap (map packet_content) (packets_none bytes f e)

-- ---- packets that are joined are read

not_padded : (p : RtcpPacket) (rest : List ℕ) → p.padding ≡ [] → 0 < length p.padding → rest ≡ []
not_padded p rest e some = absurd (omega (arith, ap length e))

read_again : (ps : List RtcpPacket) → AreJoined ps → packets_in (flat_map packet_bytes ps) ≡ ps
unfolding packets_in
read_again [] h = refl
read_again (p ∷ []) h = packets_more (packet_bytes p ++ []) p [] (packet_again p [] h (λ _. refl))
read_again (p ∷ (q ∷ ps)) h =
    packets_more (flat_map packet_bytes (p ∷ (q ∷ ps))) p (flat_map packet_bytes (q ∷ ps)) (packet_again p (flat_map packet_bytes (q ∷ ps)) h.0 (not_padded p _ h.1))
    ∙ ap (λ qs. p ∷ qs) (read_again (q ∷ ps) h.2)

pub reads_only : (bytes : List ℕ) (ps : List RtcpPacket) → ReadsRtcp bytes ps → packets_in bytes ≡ ps
reads_only bytes ps h = ap packets_in h.bytes_are ∙ read_again ps h.joined

-- ---- packets that were read are joined

joined_more : (before : List RtcpPacket) (p : RtcpPacket) → AreUnpadded before → IsPacket p → AreJoined (before ++ p ∷ [])
joined_more [] p each is = is
joined_more (q ∷ []) p each is = (each.0, each.1, is)
joined_more (q ∷ (r ∷ rs)) p each is = (each.0, each.1, joined_more (r ∷ rs) p each.2 is)

unpadded_more : (before : List RtcpPacket) (p : RtcpPacket) → AreUnpadded before → IsPacket p → p.padding ≡ [] → AreUnpadded (before ++ p ∷ [])
unpadded_more [] p each is none = (is, none, tt)
unpadded_more (q ∷ qs) p each is none = (each.0, each.1, unpadded_more qs p each.2 is none)

bytes_more : (bytes front rest behind : List ℕ) (before : List RtcpPacket) (p : RtcpPacket) → bytes ≡ flat_map packet_bytes before ++ rest → rest ≡ packet_bytes p ++ behind
    → bytes ≡ flat_map packet_bytes (before ++ p ∷ []) ++ behind
bytes_more bytes front rest behind before p e is =
    e ∙ ap (λ r. flat_map packet_bytes before ++ r) is ∙ sym (append_assoc (flat_map packet_bytes before) (packet_bytes p) behind)
    ∙ ap (λ r. r ++ behind) (flat_map_more packet_bytes [] before p)

pub rest_bytes : (bytes rest : List ℕ) → Passes bytes rest → IsBytes bytes → IsBytes rest
rest_bytes bytes rest h fit i =
    let front = flat_map packet_bytes h.before in
    let same : get_or bytes (length front + i) 0 ≡ get_or rest i 0 = ap (λ y. get_or y (length front + i) 0) h.bytes_are ∙ get_or-append-add front rest i 0 in
    omega (arith, fit (length front + i))

pub passes_none : (bytes : List ℕ) → Passes bytes bytes
passes_none bytes = record { before = []; each = tt; goes_on = λ some. absurd (omega arith); bytes_are = refl }

unpadded_since : (p : RtcpPacket) (behind : List ℕ) → (0 < length p.padding → behind ≡ []) → 0 < length behind → length p.padding ≡ 0
unpadded_since p behind last more = elim (cases_lt 0 (length p.padding)) [ inl some ↦ absurd (omega (arith, ap length (last some))) | inr none ↦ omega arith ]

pub passes_more : (bytes rest behind : List ℕ) (p : RtcpPacket) → Passes bytes rest → Takes p rest behind → 0 < length behind → Passes bytes behind
passes_more bytes rest behind p h t more =
    let none : p.padding ≡ [] = nil_from_length p.padding (unpadded_since p behind t.last more) in
    record {
      before = h.before ++ p ∷ [];
      each = unpadded_more h.before p h.each t.packet none;
      goes_on = λ _. more;
      bytes_are = bytes_more bytes [] rest behind h.before p h.bytes_are t.bytes_are;
    }

pub joined_ends : (bytes rest behind : List ℕ) (p : RtcpPacket) → Passes bytes rest → Takes p rest behind → behind ≡ [] → ReadsRtcp bytes (packets_in bytes)
joined_ends bytes rest behind p h t ends =
    let ps = h.before ++ p ∷ [] in
    let reads : ReadsRtcp bytes ps = record {
      some = omega (arith, length_push h.before p);
      joined = joined_more h.before p h.each t.packet;
      bytes_are = bytes_more bytes [] rest behind h.before p h.bytes_are t.bytes_are ∙ ap (λ r. flat_map packet_bytes ps ++ r) ends ∙ append-nil (flat_map packet_bytes ps);
    } in
    let P : List RtcpPacket → Type 0 = λ qs. ReadsRtcp bytes qs in
    subst P (sym (reads_only bytes ps reads)) reads

-- ---- one answer

front_again : (p : RtcpPacket) (ps : List RtcpPacket) (rest : List ℕ) → IsPacket p → p.padding ≡ [] → packet_at (flat_map packet_bytes (p ∷ ps) ++ rest) ≡ Ok (p, flat_map packet_bytes ps ++ rest)
front_again p ps rest is none =
    ap packet_at (append_assoc (packet_bytes p) (flat_map packet_bytes ps) rest) ∙ packet_again p (flat_map packet_bytes ps ++ rest) is (not_padded p _ none)

apart : (x : RtcpPacket × List ℕ) (f : RtcpFault) → ◌≡◌ {A = Result (RtcpPacket × List ℕ) RtcpFault} (Ok x) (Err f) → ⊥
apart x f e = cc

same_fault : (f g : RtcpFault) → ◌≡◌ {A = Result (RtcpPacket × List ℕ) RtcpFault} (Err f) (Err g) → f ≡ g
same_fault f g e = cc

same_read : (x y : RtcpPacket × List ℕ) → ◌≡◌ {A = Result (RtcpPacket × List ℕ) RtcpFault} (Ok x) (Ok y) → x ≡ y
same_read x y e = cc

refuses_same : (a b : List RtcpPacket) (r s : List ℕ) (f g : RtcpFault) → AreUnpadded a → AreUnpadded b → packet_at r ≡ Err f → packet_at s ≡ Err g
    → flat_map packet_bytes a ++ r ≡ flat_map packet_bytes b ++ s → f ≡ g
refuses_same [] [] r s f g ha hb hr hs e = same_fault f g (sym hr ∙ ap packet_at e ∙ hs)
refuses_same [] (q ∷ qs) r s f g ha hb hr hs e = absurd (apart _ f (sym (front_again q qs s hb.0 hb.1) ∙ sym (ap packet_at e) ∙ hr))
refuses_same (p ∷ ps) [] r s f g ha hb hr hs e = absurd (apart _ g (sym (front_again p ps r ha.0 ha.1) ∙ ap packet_at e ∙ hs))
refuses_same (p ∷ ps) (q ∷ qs) r s f g ha hb hr hs e =
    let same = same_read _ _ (sym (front_again p ps r ha.0 ha.1) ∙ ap packet_at e ∙ front_again q qs s hb.0 hb.1) in
    refuses_same ps qs r s f g ha.2 hb.2 hr hs (ap (λ (x : RtcpPacket × List ℕ). x.1) same)

pub refuses_one : (bytes : List ℕ) (f g : RtcpFault) → Refuses bytes f → Refuses bytes g → f ≡ g
refuses_one bytes f g a b =
    refuses_same a.passes.before b.passes.before a.rest b.rest f g a.passes.each b.passes.each (fault_again a.rest f a.here) (fault_again b.rest g b.here) (sym a.passes.bytes_are ∙ b.passes.bytes_are)

first_read : (ps : List RtcpPacket) → 0 < length ps → AreJoined ps → (x : RtcpPacket × List ℕ) × (packet_at (flat_map packet_bytes ps) ≡ Ok x)
first_read [] some h = absurd (omega arith)
first_read (p ∷ []) some h = ((p, []), packet_again p [] h (λ _. refl))
first_read (p ∷ (q ∷ ps)) some h = ((p, flat_map packet_bytes (q ∷ ps)), packet_again p (flat_map packet_bytes (q ∷ ps)) h.0 (not_padded p _ h.1))

ends_apart : (ps : List RtcpPacket) (r : List ℕ) → 0 < length r → flat_map packet_bytes ps ++ r ≡ [] → ⊥
ends_apart [] r more e = absurd (omega (arith, ap length e))
ends_apart (p ∷ ps) r more e = absurd (omega (arith, ap length e))

refuses_apart : (before ps : List RtcpPacket) (r : List ℕ) (f : RtcpFault) → AreUnpadded before → (0 < length before → 0 < length r) → packet_at r ≡ Err f → 0 < length ps → AreJoined ps
    → flat_map packet_bytes before ++ r ≡ flat_map packet_bytes ps → ⊥
refuses_apart [] ps r f hb more hr some h e = let x = first_read ps some h in apart x.0 f (sym x.1 ∙ sym (ap packet_at e) ∙ hr)
refuses_apart (b ∷ bs) [] r f hb more hr some h e = absurd (omega arith)
refuses_apart (b ∷ bs) (p ∷ []) r f hb more hr some h e =
    let same = same_read _ _ (sym (front_again b bs r hb.0 hb.1) ∙ ap packet_at e ∙ packet_again p [] h (λ _. refl)) in
    ends_apart bs r (more (omega arith)) (ap (λ (x : RtcpPacket × List ℕ). x.1) same)
refuses_apart (b ∷ bs) (p ∷ (q ∷ ps)) r f hb more hr some h e =
    let same = same_read _ _ (sym (front_again b bs r hb.0 hb.1) ∙ ap packet_at e ∙ packet_again p (flat_map packet_bytes (q ∷ ps)) h.0 (not_padded p _ h.1)) in
    refuses_apart bs (q ∷ ps) r f hb.2 (λ _. more (omega arith)) hr (omega arith) h.2 (ap (λ (x : RtcpPacket × List ℕ). x.1) same)

pub refuses_none : (bytes : List ℕ) (ps : List RtcpPacket) (f : RtcpFault) → Refuses bytes f → ReadsRtcp bytes ps → ⊥
refuses_none bytes ps f a h =
    refuses_apart a.passes.before ps a.rest f a.passes.each a.passes.goes_on (fault_again a.rest f a.here) h.some h.joined (sym a.passes.bytes_are ∙ h.bytes_are)
