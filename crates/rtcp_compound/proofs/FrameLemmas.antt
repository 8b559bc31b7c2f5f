-- A packet by its header and padding, and what its body holds.
use Rattle.std.proofs.Common.{◌≡◌, ◌∙◌, ℕ, ◌+◌, ◌-◌, ◌%◌, ◌≤◌, inl, inr, List, [], ◌∷◌, length, take, drop, slice_index, Some, None, Result, Ok, Err, refl, sym, ap, subst, arith, length-append, true}
use Rattle.std.proofs.lemmas.Bool.{ltb-false, and_parts, not-true}
use Rattle.std.proofs.lemmas.List.{length-take, length-drop}
use Rattle.std.specs.List.{flat_map}
use Rattle.std.specs.Result.{IfOk}
use Rattle.rtcp_compound.specs.declared.fault.RtcpFault.{RtcpFault}
use Rattle.rtcp_compound.specs.declared.fault.RtcpFault.TheVariants.{CountOver}
use Rattle.rtcp_compound.specs.Grammar.{RtcpPacket, ReadsRtcp, packet_bytes, sources_end}
use Rattle.rtcp_compound.specs.declared.packet.TheConstants.{BYE}
use Rattle.rtcp_compound.specs.Reading.{◌>>=◌, Gives, IsReadWhole, content_at, fault_in, fits_bye, frame_at, is_padded, packet_at, packets_in, padding_in, sizes, unless}
use Rattle.rtcp_compound.proofs.HeaderLemmas.{bind_ok, same_ok, unless_ok, content_takes}
use Rattle.rtcp_compound.proofs.PacketLemmas.{after_content, after_padding, wanted}
use Rattle.rtcp_compound.proofs.DatagramLemmas.{packets_more, packets_none, read_cases, reads_only}

abbrev framed : List ℕ → List ℕ × List ℕ → ℕ → RtcpPacket
framed bytes c n = record { count = slice_index bytes 0 % 32; kind = slice_index bytes 1; body = take (length c.0 - n) c.0; padding = drop (length c.0 - n) c.0 }

abbrev frame_padded : List ℕ → List ℕ × List ℕ → ℕ → Result (RtcpPacket × List ℕ) RtcpFault
frame_padded bytes c n = Ok (framed bytes c n, c.1)

abbrev frame_content : List ℕ → List ℕ × List ℕ → Result (RtcpPacket × List ℕ) RtcpFault
frame_content bytes c = padding_in (is_padded bytes) c.0 >>= frame_padded bytes c

abbrev checked : RtcpPacket × List ℕ → Result (RtcpPacket × List ℕ) RtcpFault
checked x = unless (fault_in x.0.kind x.0.count x.0.body) x.0 >>= λ q. Ok (q, x.1)

-- the packet is its frame, once the body is checked
packet_by_frame : (bytes : List ℕ) → packet_at bytes ≡ (frame_at bytes >>= checked)
unfolding packet_at frame_at
packet_by_frame bytes = elim (content_at bytes) as (λ r. (r >>= after_content bytes) ≡ ((r >>= frame_content bytes) >>= checked)) [
  | Ok c ↦ elim (padding_in (is_padded bytes) c.0) as (λ r. (r >>= after_padding bytes c) ≡ ((r >>= frame_padded bytes c) >>= checked)) [ Ok n ↦ refl | Err f ↦ refl ]
  | Err f ↦ refl
]

pub packet_checked : (bytes : List ℕ) (x : RtcpPacket × List ℕ) → frame_at bytes ≡ Ok x → fault_in x.0.kind x.0.count x.0.body ≡ None → packet_at bytes ≡ Ok x
packet_checked bytes x e none = packet_by_frame bytes ∙ ap (λ r. r >>= checked) e ∙ ap (λ o. unless o x.0 >>= λ q. Ok (q, x.1)) none

pub packet_faulty : (bytes : List ℕ) (x : RtcpPacket × List ℕ) (f : RtcpFault) → frame_at bytes ≡ Ok x → fault_in x.0.kind x.0.count x.0.body ≡ Some f → packet_at bytes ≡ Err f
packet_faulty bytes x f e some = packet_by_frame bytes ∙ ap (λ r. r >>= checked) e ∙ ap (λ o. unless o x.0 >>= λ q. Ok (q, x.1)) some

pub frame_faulty : (bytes : List ℕ) (f : RtcpFault) → frame_at bytes ≡ Err f → packet_at bytes ≡ Err f
frame_faulty bytes f e = packet_by_frame bytes ∙ ap (λ r. r >>= checked) e

-- ---- packets that were read before

-- header, content and what follows are all there is
frame_size : (bytes : List ℕ) (x : RtcpPacket × List ℕ) → frame_at bytes ≡ Ok x → 4 + (length x.0.body + length x.0.padding) + length x.1 ≡ length bytes
unfolding frame_at
frame_size bytes x e =
    let c = bind_ok (content_at bytes) (frame_content bytes) x e in
    let n = bind_ok (padding_in (is_padded bytes) c.0.0) (frame_padded bytes c.0) x c.2 in
    let h = content_takes bytes c.0 c.1 in
    let header : 4 ≤ length bytes = h.header in
    let all : length bytes - 4 ≡ length c.0.0 + length c.0.1 = sym (length-drop 4 bytes) ∙ ap length h.bytes_are ∙ length-append c.0.0 c.0.1 in
    let R : RtcpPacket × List ℕ → Type 0 = λ y. 4 + (length y.0.body + length y.0.padding) + length y.1 ≡ length bytes in
    let front = length-take (length c.0.0 - n.0) c.0.0 in
    let behind = length-drop (length c.0.0 - n.0) c.0.0 in
    subst R (same_ok (framed bytes c.0 n.0, c.0.1) x n.2) (omega arith)

-- a body that is checked
fits_by : (bytes : List ℕ) (x : RtcpPacket × List ℕ) → frame_at bytes ≡ Ok x → ((y : RtcpPacket × List ℕ) × (packet_at bytes ≡ Ok y)) → fault_in x.0.kind x.0.count x.0.body ≡ None
fits_by bytes x e y =
    let c = bind_ok (unless (fault_in x.0.kind x.0.count x.0.body) x.0) (λ (q : RtcpPacket). Ok (q, x.1)) y.0 (sym (packet_by_frame bytes ∙ ap (λ r. r >>= checked) e) ∙ y.1) in
    (unless_ok (fault_in x.0.kind x.0.count x.0.body) x.0 c.0 c.1).0

-- what is known of the packet at the front of packets that were all read
pub record IsKnown (bytes : List ℕ) (x : RtcpPacket × List ℕ) : Type 0 where
  pub packet : packet_at bytes ≡ Ok x
  pub rest : IsReadWhole x.1
  pub fits : fault_in x.0.kind x.0.count x.0.body ≡ None

front_read : (bytes : List ℕ) (x : RtcpPacket × List ℕ) → IsReadWhole bytes → frame_at bytes ≡ Ok x → (y : RtcpPacket × List ℕ) × (packet_at bytes ≡ Ok y)
front_read bytes x whole e = elim (read_cases (packet_at bytes)) [
  | inl y ↦ y
  | inr f ↦ let none : 0 ≡ length bytes = sym (ap sizes (packets_none bytes f.0 f.1)) ∙ whole in let size = frame_size bytes x e in absurd (omega arith)
]

pub known : (bytes : List ℕ) (x : RtcpPacket × List ℕ) → IsReadWhole bytes → frame_at bytes ≡ Ok x → IsKnown bytes x
known bytes x whole e =
    let fits = fits_by bytes x e (front_read bytes x whole e) in
    let packet = packet_checked bytes x e fits in
    let more : sizes (packets_in bytes) ≡ 4 + (length x.0.body + length x.0.padding) + sizes (packets_in x.1) = ap sizes (packets_more bytes x.0 x.1 packet) in
    let size = frame_size bytes x e in
    record { packet = packet; rest = omega (arith, more, whole, size); fits = fits }

-- the same for what a call gives
pub gives_again : {X : Type 0} (view : X → RtcpPacket × List ℕ) (bytes : List ℕ) (r : Result X RtcpFault) → IsReadWhole bytes → Gives view r (frame_at bytes)
    → Gives view r (packet_at bytes)
gives_again view bytes (Ok x) whole e = (known bytes (view x) whole e).packet
gives_again view bytes (Err f) whole e = frame_faulty bytes f e

pub ok_again : {X : Type 0} (view : X → RtcpPacket × List ℕ) (P : X → Type 0) (bytes : List ℕ) (r : Result X RtcpFault) → IsReadWhole bytes
    → Gives view r (frame_at bytes) → ((x : X) → IsKnown bytes (view x) → P x) → IfOk r P
ok_again view P bytes (Ok x) whole e h = h x (known bytes (view x) whole e)
ok_again view P bytes (Err f) whole e h = tt

pub goodbye_fits : (kind count : ℕ) (body : List ℕ) → fault_in kind count body ≡ None → kind ≡ BYE → sources_end count ≤ length body
unfolding fault_in
goodbye_fits kind count body e is =
    let at : fault_in BYE count body ≡ None = ap (λ (k : ℕ). fault_in k count body) (sym is) ∙ e in
    let fits : fits_bye count body ≡ true = wanted (fits_bye count body) CountOver at in
    ltb-false (length body) (sources_end count) (not-true _ (and_parts _ _ fits).0)

-- a datagram that is split
sizes_are : (ps : List RtcpPacket) → sizes ps ≡ length (flat_map packet_bytes ps)
sizes_are [] = refl
sizes_are (p ∷ ps) =
    let rest = sizes_are ps in
    let joined = length-append (packet_bytes p) (flat_map packet_bytes ps) in
    let body = length-append p.body p.padding in
    omega arith

pub reads_whole : (bytes : List ℕ) (ps : List RtcpPacket) → ReadsRtcp bytes ps → IsReadWhole bytes
reads_whole bytes ps h = ap sizes (reads_only bytes ps h) ∙ (sizes_are ps ∙ ap length (sym h.bytes_are))
